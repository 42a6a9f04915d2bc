use Rattle.std.proofs.Common.{◌≡◌, ◌++◌, drop}
use Rattle.std.specs.Prelude.{codes}
use Rattle.std.specs.List.{flat_map}
use Rattle.vc_show_rows.specs.Texts.{text_of}
use Rattle.vc_show_rows.proofs.texts.put_texts.Given as goal

-- what is put and what is to come are all of it
abbrev pub invariant-loop-text : goal.invariant-loop-text
invariant-loop-text l =
    l.out ++ flat_map (λ t. codes " " ++ text_of l.plan t) (drop l.text-index l.texts)
    ≡ l.initial.out ++ flat_map (λ t. codes " " ++ text_of l.plan t) l.texts
