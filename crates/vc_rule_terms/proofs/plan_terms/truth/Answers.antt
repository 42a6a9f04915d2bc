use Rattle.std.proofs.Common.{ap, sym, ◌∙◌}
use Rattle.std.specs.Prelude.{slice_get}
use Rattle.vc_plan.specs.Readings.{net_reading}
use Rattle.vc_plan_values.proofs.TermLemmas.{condition_at_computes, net_bounded}
use Rattle.vc_rule_terms.proofs.plan_terms.truth.Goals as goal

pub truth-requires : goal.truth-requires
truth-requires g c =
    condition_at_computes c.args.plan.now c.requires.fit (net_reading (g.V.View.seen c.args.view.now))
    (net_bounded c.args.plan.now (g.V.View.seen c.args.view.now) c.requires.values)
    c.args.condition c.in-Some.condition.now
    (ap (λ list. slice_get list c.args.condition) (sym c.as_slice.ensures) ∙ c.in-Some.ensures.some)
