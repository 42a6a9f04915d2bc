use Rattle.std.proofs.Common.{ℕ, ap, sym, take, ◌∙◌}
use Rattle.vc_plan.specs.Restrictions.{confined}
use Rattle.vc_rule_yield.specs.Yielding.{with_cites}
use Rattle.vc_rule_grains.specs.Confining.{why_confined}
use Rattle.vc_rule_sides.specs.Comparing.{values_in}
use Rattle.vc_rule_sides.proofs.AfterLaws.{clash_after, atoms_after}
use Rattle.vc_rule_sides.proofs.sides.confine_by.Goals as goal

pub returns-then-not-is_ruled_out : goal.returns-then-not-is_ruled_out
returns-then-not-is_ruled_out g c =
    let plan = c.args.plan.now in
    let seen = g.V.View.seen c.args.view.now in
    let test = g.T.Test.passes c.args.test.now in
    c.keep_cited.ensures
    ∙ (ap (λ (k : ℕ). with_cites c.confine.new.out (take k c.confine.new.out.cites)) c.cited_count-cited.ensures
    ∙ atoms_after seen c.args.out.now c.cite_values.new.out c.confine.new.out (values_in plan seen c.args.other)
    (why_confined plan seen c.args.var test)
    (confined plan seen c.args.var test) (sym c.is_ruled_out.ensures ∙ c.if-not-is_ruled_out.true) c.cite_values.ensures
    c.confine.ensures)

pub returns-else-not-is_ruled_out : goal.returns-else-not-is_ruled_out
returns-else-not-is_ruled_out g c =
    let plan = c.args.plan.now in
    let seen = g.V.View.seen c.args.view.now in
    let test = g.T.Test.passes c.args.test.now in
    clash_after seen c.args.out.now c.cite_values.new.out c.confine.new.out (values_in plan seen c.args.other)
    (why_confined plan seen c.args.var test)
    (confined plan seen c.args.var test) (sym c.is_ruled_out.ensures ∙ c.if-not-is_ruled_out.false)
    c.cite_values.ensures c.confine.ensures
