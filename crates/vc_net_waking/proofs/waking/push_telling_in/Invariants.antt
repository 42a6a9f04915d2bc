-- The sources of the variables so far wait.
use Rattle.std.proofs.Common.{◌≡◌}
use Rattle.vc_net_waking.specs.Waking.{telling_in_slot, with_givers}
use Rattle.vc_net_waking.proofs.waking.push_telling_in.Given as goal

abbrev pub invariant-loop-var : goal.invariant-loop-var
invariant-loop-var l = l.agenda ≡ with_givers l.fn.agenda (telling_in_slot l.plan l.sources l.slot l.var)
