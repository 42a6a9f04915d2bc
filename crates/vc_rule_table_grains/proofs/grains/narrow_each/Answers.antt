use Rattle.std.proofs.Common.{◌∙◌, arith}
use Rattle.vc_plan.specs.Domains.{count_of}
use Rattle.vc_rule_table_grains.specs.Calls.{loses, misses}
use Rattle.vc_rule_table_grains.proofs.ConcludingSteps.{concluded_number}
use Rattle.vc_rule_table_grains.proofs.grains.narrow_each.Goals as goal

pub loop-grain-preserved : goal.loop-grain-preserved
loop-grain-preserved g c =
    let seen = g.V.View.seen in
    let call = c.args.marked.now.call.now in
    concluded_number (seen call.view.now) (loses seen call) (misses seen call) c.loop-grain.out c.narrow_grain.new.out
    c.loop-grain.grain (count_of call.plan.now call.var)
    (omega (arith, c.loop-grain-test.true, c.count_of-grain-end.ensures)) c.narrow_grain.ensures
    ∙ c.loop-grain.invariant
