-- The numbers so far, and those of the parts that are left, are those of all parts.
use Rattle.std.proofs.Common.{◌≡◌}
use Rattle.std.specs.Option.{option_copied}
use Rattle.vc_wire_chains_lines.specs.Cutting.{numbers_at, numbers_from, parts_if}
use Rattle.vc_wire_chains_lines.proofs.NumberLemmas.{room}
use Rattle.vc_wire_chains_lines.proofs.numbers.numbers_at.Given as goal

abbrev pub invariant-loop-rest : goal.invariant-loop-rest
invariant-loop-rest l =
    numbers_from l.numbers (parts_if l.separator (option_copied l.rest)) ≡ numbers_at l.separator l.text

abbrev pub decreases-loop-rest : goal.decreases-loop-rest
decreases-loop-rest l = room (option_copied l.rest)
