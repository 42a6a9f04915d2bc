use Rattle.std.proofs.Common.{sym, ◌∙◌, arith}
use Rattle.vc_base.proofs.RangeLaws.{any_next, any_here, any_done}
use Rattle.vc_plan.specs.Domains.{count_of}
use Rattle.vc_rule_table_grains.specs.Calls.{is_new}
use Rattle.vc_rule_table_grains.proofs.grains.some_newly_missing.Goals as goal

pub returns-then-is_newly_missing : goal.returns-then-is_newly_missing
returns-then-is_newly_missing g c =
    let call = c.args.marked.now.call.now in
    sym (any_here (is_new g.V.View.seen call) c.loop-grain.grain (count_of call.plan.now call.var)
    (omega (arith, c.loop-grain-test.true, c.count_of-grain-end.ensures))
    (sym c.is_newly_missing.ensures ∙ c.if-is_newly_missing.true))
    ∙ c.loop-grain.invariant

pub loop-grain-preserved : goal.loop-grain-preserved
loop-grain-preserved g c =
    let call = c.args.marked.now.call.now in
    sym (any_next (is_new g.V.View.seen call) c.loop-grain.grain (count_of call.plan.now call.var)
    (omega (arith, c.loop-grain-test.true, c.count_of-grain-end.ensures))
    (sym c.is_newly_missing.ensures ∙ c.if-is_newly_missing.false))
    ∙ c.loop-grain.invariant

pub returns : goal.returns
returns g c =
    let call = c.args.marked.now.call.now in
    sym (any_done (is_new g.V.View.seen call) c.loop-grain.grain (count_of call.plan.now call.var)
    (omega (arith, c.loop-grain-test.false, c.count_of-grain-end.ensures)))
    ∙ c.loop-grain.invariant
