use Rattle.std.proofs.Common.{length, sym, ◌∙◌, arith}
use Rattle.std.specs.Prelude.{Some}
use Rattle.vc_base.proofs.RangeLaws.{any_next, any_here, any_done}
use Rattle.vc_plan.specs.Domains.{grains_in}
use Rattle.vc_rule_table.specs.Cells.{grain_holds}
use Rattle.vc_rule_table.proofs.CellLemmas.{some_holds}
use Rattle.vc_rule_table_saying.proofs.agreed.some_grain_holds.Goals as goal

pub returns-then-grain_holds : goal.returns-then-grain_holds
returns-then-grain_holds c =
    let grains = grains_in (Some c.args.domain.now) in
    sym (any_here (grain_holds grains c.args.value) c.loop-grain.grain (length grains)
    (omega (arith, c.loop-grain-test.true, c.grain_count-grain-end.ensures))
    (sym c.grain_holds.ensures ∙ c.if-grain_holds.true))
    ∙ (c.loop-grain.invariant ∙ some_holds grains c.args.value)

pub loop-grain-preserved : goal.loop-grain-preserved
loop-grain-preserved c =
    let grains = grains_in (Some c.args.domain.now) in
    sym (any_next (grain_holds grains c.args.value) c.loop-grain.grain (length grains)
    (omega (arith, c.loop-grain-test.true, c.grain_count-grain-end.ensures))
    (sym c.grain_holds.ensures ∙ c.if-grain_holds.false))
    ∙ c.loop-grain.invariant

pub returns : goal.returns
returns c =
    let grains = grains_in (Some c.args.domain.now) in
    sym (any_done (grain_holds grains c.args.value) c.loop-grain.grain (length grains)
    (omega (arith, c.loop-grain-test.false, c.grain_count-grain-end.ensures)))
    ∙ (c.loop-grain.invariant ∙ some_holds grains c.args.value)
