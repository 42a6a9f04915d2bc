use Rattle.std.proofs.Common.{length, sym, ◌∙◌, arith}
use Rattle.std.specs.Prelude.{Some}
use Rattle.vc_base.proofs.RangeLaws.{any_next, any_here, any_done}
use Rattle.vc_plan.specs.Domains.{grains_in}
use Rattle.vc_rule_table.specs.Cells.{holds_left}
use Rattle.vc_rule_table.proofs.cells.has_left_among.Goals as goal

pub returns-then-holds_left : goal.returns-then-holds_left
returns-then-holds_left g c =
    let grains = grains_in (Some c.args.domain.now) in
    let test = holds_left grains (g.V.View.seen c.args.view.now) c.args.var c.args.known c.args.value in
    sym (any_here test c.loop-grain.grain (length grains)
    (omega (arith, c.loop-grain-test.true, c.grain_count-grain-end.ensures))
    (sym c.holds_left.ensures ∙ c.if-holds_left.true))
    ∙ c.loop-grain.invariant

pub loop-grain-preserved : goal.loop-grain-preserved
loop-grain-preserved g c =
    let grains = grains_in (Some c.args.domain.now) in
    let test = holds_left grains (g.V.View.seen c.args.view.now) c.args.var c.args.known c.args.value in
    sym (any_next test c.loop-grain.grain (length grains)
    (omega (arith, c.loop-grain-test.true, c.grain_count-grain-end.ensures))
    (sym c.holds_left.ensures ∙ c.if-holds_left.false))
    ∙ c.loop-grain.invariant

pub returns : goal.returns
returns g c =
    let grains = grains_in (Some c.args.domain.now) in
    let test = holds_left grains (g.V.View.seen c.args.view.now) c.args.var c.args.known c.args.value in
    sym (any_done test c.loop-grain.grain (length grains)
    (omega (arith, c.loop-grain-test.false, c.grain_count-grain-end.ensures)))
    ∙ c.loop-grain.invariant
