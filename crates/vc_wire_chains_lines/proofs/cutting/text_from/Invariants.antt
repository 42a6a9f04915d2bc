-- The text so far, and that of what is left, are the text of all.
use Rattle.std.proofs.Common.{◌≡◌, ◌++◌, length}
use Rattle.std.specs.Option.{option_map}
use Rattle.vc_wire_chains_lines.specs.Cutting.{text_from}
use Rattle.vc_wire_chains_lines.proofs.cutting.text_from.Given as goal

abbrev pub invariant-loop-byte : goal.invariant-loop-byte
invariant-loop-byte l = option_map (λ more. l.text.items ++ more) (text_from l.rest) ≡ text_from l.bytes

abbrev pub decreases-loop-byte : goal.decreases-loop-byte
decreases-loop-byte l = length l.rest
