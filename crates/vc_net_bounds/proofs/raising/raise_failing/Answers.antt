use Rattle.std.proofs.Common.{◌∙◌, arith}
use Rattle.vc_plan.specs.Domains.{count_of}
use Rattle.vc_net_bounds.specs.Raising.{where_failing}
use Rattle.vc_net_bounds.proofs.PlaceLemmas.{grain_next, grains_done}
use Rattle.vc_net_bounds.proofs.raising.raise_failing.Goals as goal

pub loop-grain-preserved : goal.loop-grain-preserved
loop-grain-preserved g c =
    let plan = c.args.plan.now in
    let need = where_failing c.args.plan.now c.args.var (g.T.Test.passes c.args.test.now) c.args.bound in (
      grain_next plan c.args.var c.loop-grain.grain (count_of plan c.args.var) c.where_failing-own.result need
          c.loop-grain.bounds c.raise_grain.new.bounds
          (omega (arith, c.loop-grain-test.true, c.grain_count-grain-end.ensures)) c.where_failing-own.ensures
          c.raise_grain.ensures.is
          ∙ c.loop-grain.invariant.0,
      c.raise_grain.ensures.whole,
    )

pub returns-clause-is : goal.returns-clause-is
returns-clause-is g c =
    let plan = c.args.plan.now in
    let need = where_failing c.args.plan.now c.args.var (g.T.Test.passes c.args.test.now) c.args.bound in
    grains_done plan c.args.var c.loop-grain.grain (count_of plan c.args.var) need c.args.bounds.now c.loop-grain.bounds
    (omega (arith, c.loop-grain-test.false, c.grain_count-grain-end.ensures)) c.loop-grain.invariant.0
