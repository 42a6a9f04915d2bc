use Rattle.std.proofs.Common.{ap, sym, ◌∙◌}
use Rattle.std.specs.Prelude.{slice_get}
use Rattle.vc_plan.specs.Readings.{net_reading}
use Rattle.vc_plan_values.proofs.TermLemmas.{term_at_computes, net_bounded}
use Rattle.vc_rule_terms.proofs.plan_terms.term_value.Goals as goal

pub term_value-requires : goal.term_value-requires
term_value-requires g c =
    term_at_computes c.args.plan.now c.requires.fit (net_reading (g.V.View.seen c.args.view.now))
    (net_bounded c.args.plan.now (g.V.View.seen c.args.view.now) c.requires.values) c.args.term
    c.in-Some.term.now
    (ap (λ list. slice_get list c.args.term) (sym c.as_slice.ensures) ∙ c.in-Some.ensures.some)
