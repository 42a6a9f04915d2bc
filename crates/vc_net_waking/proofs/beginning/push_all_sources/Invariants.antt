-- The sources of the variables so far wait.
use Rattle.std.proofs.Common.{◌≡◌}
use Rattle.vc_net_waking.specs.Beginning.{all_sources}
use Rattle.vc_net_waking.specs.Waking.{with_givers}
use Rattle.vc_net_waking.proofs.beginning.push_all_sources.Given as goal

abbrev pub invariant-loop-var : goal.invariant-loop-var
invariant-loop-var l = l.agenda ≡ with_givers l.fn.agenda (all_sources l.var)
