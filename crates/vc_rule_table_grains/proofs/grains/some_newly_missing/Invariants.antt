-- What the grains from here on say is what all say.
use Rattle.std.proofs.Common.{◌≡◌, ◌-◌}
use Rattle.std.specs.List.{list_any, range_with_len}
use Rattle.vc_plan.specs.Domains.{count_of, numbers_below}
use Rattle.vc_rule_table_grains.specs.Calls.{is_new}
use Rattle.vc_rule_table_grains.proofs.grains.some_newly_missing.Given as goal

abbrev pub invariant-loop-grain : goal.invariant-loop-grain
invariant-loop-grain g l =
    let call = l.marked.call.now in
    let count = count_of call.plan.now call.var in
    list_any (is_new g.V.View.seen call) (range_with_len l.grain (count - l.grain))
    ≡ list_any (is_new g.V.View.seen call) (numbers_below count)
