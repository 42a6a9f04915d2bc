-- What is put, with the texts to come, is all of it.
use Rattle.std.proofs.Common.{◌≡◌, ◌++◌, drop}
use Rattle.std.specs.Prelude.{codes}
use Rattle.std.specs.List.{flat_map}
use Rattle.vc_plan_users.specs.Choosing.{held_texts}
use Rattle.vc_show_rows.specs.Texts.{text_of}
use Rattle.vc_desk_shown.proofs.chosen.put_all_held.Given as goal

abbrev pub invariant-loop-text : goal.invariant-loop-text
invariant-loop-text l =
    l.out ++ flat_map (λ t. codes " " ++ text_of l.plan t) (held_texts (drop l.text-index l.texts))
    ≡ l.initial.out ++ flat_map (λ t. codes " " ++ text_of l.plan t) (held_texts l.texts)
