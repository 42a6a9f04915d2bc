-- What is put, with the characteristics to come, is all of it.
use Rattle.std.proofs.Common.{◌≡◌, ◌++◌, drop}
use Rattle.std.specs.List.{flat_map}
use Rattle.vc_plan_users.specs.Choosing.{users_of}
use Rattle.vc_show_rows.specs.Rows.{class_of, named_of}
use Rattle.vc_desk_shown.specs.Shown.{chosen_row}
use Rattle.vc_desk_shown.proofs.chosen.put_chosen_at.Given as goal

abbrev pub invariant-loop-characteristic : goal.invariant-loop-characteristic
invariant-loop-characteristic l =
    l.out ++ flat_map (λ c. chosen_row l.plan (users_of l.users) l.slot (named_of l.plan l.slot c))
    (drop l.characteristic-index (class_of l.plan l.slot))
    ≡ l.initial.out ++ flat_map (λ c. chosen_row l.plan (users_of l.users) l.slot (named_of l.plan l.slot c))
    (class_of l.plan l.slot)
