use Rattle.std.proofs.Common.{◌≡◌, ◌++◌, ◌∷◌, replicate}
use Rattle.vc_net_bounds.proofs.bounds.append_sources.Given as goal

abbrev pub invariant-loop-grain : goal.invariant-loop-grain
invariant-loop-grain l = l.bounds ≡ l.fn.bounds ++ 1 ∷ replicate l.grain 0
