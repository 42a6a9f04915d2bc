use Rattle.std.proofs.Common.{◌≡◌}
use Rattle.vc_net_bounds.specs.Counting.{sources_before}
use Rattle.vc_net_bounds.proofs.bounds.source_bounds.Given as goal

abbrev pub invariant-loop-var : goal.invariant-loop-var
invariant-loop-var l = l.bounds ≡ sources_before l.plan l.var
