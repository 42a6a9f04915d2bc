-- What waits so far, with those of the rules from here on, is what is to wait.
use Rattle.std.proofs.Common.{◌≡◌, length}
use Rattle.std.specs.List.{filter}
use Rattle.vc_plan_reasons.specs.Things.{var_at}
use Rattle.vc_net_readers.specs.Readers.{is_reader}
use Rattle.vc_net_waking.specs.Waking.{stirred_rules, with_givers}
use Rattle.vc_net_waking.proofs.waking.push_touching.Given as goal

abbrev pub invariant-loop-rest : goal.invariant-loop-rest
invariant-loop-rest g l =
    with_givers l.agenda (stirred_rules l.plan (g.V.View.seen l.view) (filter (is_reader l.plan (var_at l.var)) l.rest))
    ≡ with_givers l.fn.agenda
    (stirred_rules l.plan (g.V.View.seen l.view) (filter (is_reader l.plan (var_at l.var)) l.rules))

abbrev pub decreases-loop-rest : goal.decreases-loop-rest
decreases-loop-rest g l = length l.rest
