-- What waits so far, with those of the rules from here on, is what is to wait.
use Rattle.std.proofs.Common.{◌≡◌, length}
use Rattle.std.specs.List.{filter}
use Rattle.vc_net_waking.specs.Waking.{may_say, rules_in, with_givers}
use Rattle.vc_net_waking.proofs.waking.push_unless_at_rest.Given as goal

abbrev pub invariant-loop-rest : goal.invariant-loop-rest
invariant-loop-rest g l =
    with_givers l.agenda (rules_in (filter (may_say l.plan (g.V.View.seen l.view)) l.rest))
    ≡ with_givers l.fn.agenda (rules_in (filter (may_say l.plan (g.V.View.seen l.view)) l.rules))

abbrev pub decreases-loop-rest : goal.decreases-loop-rest
decreases-loop-rest g l = length l.rest
