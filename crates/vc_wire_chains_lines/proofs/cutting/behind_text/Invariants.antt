-- What follows the text in the rest follows it in all.
use Rattle.std.proofs.Common.{◌≡◌, length}
use Rattle.vc_wire_chains_lines.specs.Cutting.{behind_text}
use Rattle.vc_wire_chains_lines.proofs.cutting.behind_text.Given as goal

abbrev pub invariant-loop-more : goal.invariant-loop-more
invariant-loop-more l = behind_text l.rest ≡ behind_text l.bytes

abbrev pub decreases-loop-more : goal.decreases-loop-more
decreases-loop-more l = length l.rest
