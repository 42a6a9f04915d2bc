-- What is put so far, with the texts to come, is all of it.
use Rattle.std.proofs.Common.{◌≡◌, ◌++◌, drop, map}
use Rattle.vc_plan.specs.declared.conditions.Piece.TheVariants.{OneText}
use Rattle.vc_show_rows.proofs.grains.texts.Given as goal

abbrev pub invariant-loop-text : goal.invariant-loop-text
invariant-loop-text l = l.out ++ map OneText (drop l.text-index l.texts) ≡ map OneText l.texts
