-- What waits so far, with the rules from here on, is what is to wait.
use Rattle.std.proofs.Common.{◌≡◌, length}
use Rattle.vc_net_waking.specs.Waking.{rules_in, with_givers}
use Rattle.vc_net_waking.proofs.waking.push_rules.Given as goal

abbrev pub invariant-loop-rest : goal.invariant-loop-rest
invariant-loop-rest l = with_givers l.agenda (rules_in l.rest) ≡ with_givers l.fn.agenda (rules_in l.rules)

abbrev pub decreases-loop-rest : goal.decreases-loop-rest
decreases-loop-rest l = length l.rest
