use Rattle.std.proofs.Common.{◌≡◌, ◌++◌, length}
use Rattle.std.specs.Option.{option_map}
use Rattle.vc_model_lines.specs.Quoted.{unquoted}
use Rattle.vc_model_lines.proofs.quoted.unquoted.Given as goal

abbrev pub invariant-loop-byte : goal.invariant-loop-byte
invariant-loop-byte l = option_map (λ more. l.text.items ++ more) (unquoted l.rest) ≡ unquoted l.bytes

abbrev pub decreases-loop-byte : goal.decreases-loop-byte
decreases-loop-byte l = length l.rest
