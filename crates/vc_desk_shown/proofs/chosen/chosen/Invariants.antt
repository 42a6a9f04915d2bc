-- What is put, with the slots to come, is all of it.
use Rattle.std.proofs.Common.{◌≡◌, ◌≤◌, ◌-◌, ◌++◌, length}
use Rattle.std.specs.List.{flat_map, range_with_len}
use Rattle.vc_plan_users.specs.Choosing.{users_of}
use Rattle.vc_desk_shown.specs.Shown.{chosen_at, chosen_text}
use Rattle.vc_desk_shown.proofs.chosen.chosen.Given as goal

abbrev pub invariant-loop-slot : goal.invariant-loop-slot
invariant-loop-slot l =
    (l.out ++ flat_map (chosen_at l.plan (users_of l.users)) (range_with_len l.slot (length l.plan.slots - l.slot))
    ≡ chosen_text l.plan (users_of l.users)) × (l.slot ≤ length l.plan.slots)
