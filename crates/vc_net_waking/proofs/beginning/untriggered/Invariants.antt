-- The rules so far that wait for no value.
use Rattle.std.proofs.Common.{◌≡◌}
use Rattle.vc_net_waking.specs.Beginning.{untriggered_below}
use Rattle.vc_net_waking.proofs.beginning.untriggered.Given as goal

abbrev pub invariant-loop-rule : goal.invariant-loop-rule
invariant-loop-rule l = l.rules ≡ untriggered_below l.plan l.rule
