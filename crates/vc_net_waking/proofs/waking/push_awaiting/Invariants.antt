-- What waits so far, with the rules that wait for values of the variables from here on, is what is to wait.
use Rattle.std.proofs.Common.{◌≡◌, length}
use Rattle.std.specs.List.{filter, flat_map}
use Rattle.vc_plan_reasons.specs.Things.{var_at}
use Rattle.vc_net_readers.specs.Laws.{waiting_on}
use Rattle.vc_net_readers.specs.Readers.{is_reader}
use Rattle.vc_net_waking.specs.Waking.{stirred_rules, with_givers}
use Rattle.vc_net_waking.proofs.waking.push_awaiting.Given as goal

abbrev pub invariant-loop-rest : goal.invariant-loop-rest
invariant-loop-rest g l =
    with_givers l.agenda (stirred_rules l.plan (g.V.View.seen l.view)
    (filter (is_reader l.plan (var_at l.var)) (flat_map (waiting_on l.plan (g.V.View.seen l.view)) l.rest)))
    ≡ with_givers l.fn.agenda (stirred_rules l.plan (g.V.View.seen l.view)
    (filter (is_reader l.plan (var_at l.var)) (flat_map (waiting_on l.plan (g.V.View.seen l.view)) l.awaited)))

abbrev pub decreases-loop-rest : goal.decreases-loop-rest
decreases-loop-rest g l = length l.rest
