use Rattle.std.specs.Prelude.{◌≡◌, replicate}
use Rattle.vc_net_standing.proofs.standing.zeros.Given as goal

abbrev pub invariant-loop-place : goal.invariant-loop-place
invariant-loop-place l = l.numbers ≡ replicate l.place 0
