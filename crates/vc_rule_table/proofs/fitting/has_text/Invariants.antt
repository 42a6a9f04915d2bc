-- What the texts from here on say is what all say.
use Rattle.std.proofs.Common.{◌≡◌, length, map}
use Rattle.vc_value.specs.declared.value.Value.TheVariants.{Text}
use Rattle.vc_plan.specs.declared.conditions.Piece.TheVariants.{OneText}
use Rattle.vc_plan.specs.Pieces.{lies_in_some}
use Rattle.vc_rule_table.proofs.fitting.has_text.Given as goal

abbrev pub invariant-loop-rest : goal.invariant-loop-rest
invariant-loop-rest l =
    lies_in_some (map OneText l.rest) (Text l.text) ≡ lies_in_some (map OneText l.texts) (Text l.text)

abbrev pub decreases-loop-rest : goal.decreases-loop-rest
decreases-loop-rest l = length l.rest
