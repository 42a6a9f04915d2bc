-- No grain before the one at hand is the text's.
use Rattle.std.proofs.Common.{◌≡◌, ◌-◌, ◌≤◌, map}
use Rattle.std.specs.Prelude.{slice_get}
use Rattle.std.specs.List.{find, range_with_len}
use Rattle.vc_value.specs.declared.value.Value.TheVariants.{Text}
use Rattle.vc_plan.specs.declared.conditions.Piece.TheVariants.{OneText}
use Rattle.vc_plan.specs.Domains.{passes}
use Rattle.vc_plan.specs.Pieces.{lies_in}
use Rattle.vc_rule_grains.specs.Finding.{grain_in}
use Rattle.vc_rule_grains.proofs.finding.first_grain.Given as goal

abbrev pub invariant-loop-grain : goal.invariant-loop-grain
invariant-loop-grain l =
    (find (λ g. passes (lies_in (Text l.text)) (slice_get (map OneText l.texts) g))
    (range_with_len l.grain (l.count - l.grain))
    ≡ grain_in (map OneText l.texts) (Text l.text)) × (l.grain ≤ l.count)

abbrev pub decreases-loop-grain : goal.decreases-loop-grain
decreases-loop-grain l = l.count - l.grain
