-- The sources of the variables before here that differ wait.
use Rattle.std.proofs.Common.{◌≡◌}
use Rattle.vc_net_waking.specs.Waking.{with_givers}
use Rattle.vc_net_going.specs.Renewing.{changed_sources}
use Rattle.vc_net_going.proofs.asking.wake_changed.Given as goal

abbrev pub invariant-loop-var : goal.invariant-loop-var
invariant-loop-var l = l.agenda ≡ with_givers l.fn.agenda (changed_sources l.old l.new l.var)
