-- None of those before here is gone.
use Rattle.std.proofs.Common.{◌≡◌, ◌+◌, length}
use Rattle.std.specs.List.{position_or_len}
use Rattle.vc_net_log.specs.Staying.{differs}
use Rattle.vc_net_log.proofs.keeping.first_gone.Given as goal

abbrev pub invariant-loop-rest : goal.invariant-loop-rest
invariant-loop-rest l =
    (l.first + position_or_len (differs l.old l.new) l.rest ≡ position_or_len (differs l.old l.new) l.facts)
    × (l.first + length l.rest ≡ length l.facts)

abbrev pub decreases-loop-rest : goal.decreases-loop-rest
decreases-loop-rest l = length l.rest
