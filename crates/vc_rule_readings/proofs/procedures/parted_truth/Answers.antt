-- No step of the condition is too wide.
use Rattle.std.proofs.Common.{ap, sym, ◌∙◌}
use Rattle.std.specs.Prelude.{slice_get}
use Rattle.vc_plan_values.proofs.TermLemmas.{condition_at_computes}
use Rattle.vc_rule_readings.specs.Parted.{parted_reading}
use Rattle.vc_rule_readings.proofs.PartLemmas.{parted_bounded}
use Rattle.vc_rule_readings.proofs.procedures.parted_truth.Goals as goal

pub truth-requires-clause-computes : goal.truth-requires-clause-computes
truth-requires-clause-computes g c =
    let plan = c.args.plan.now in
    let seen = g.R.View.seen c.args.reading.now in
    let holds = g.R.Reading.holdings c.args.reading.now in
    condition_at_computes plan c.requires.fit.terms (parted_reading plan seen holds)
    (parted_bounded plan c.requires.fit seen c.requires.values holds)
    c.args.condition c.in-Some.condition.now
    (ap (λ list. slice_get list c.args.condition) (sym c.as_slice.ensures) ∙ c.in-Some.ensures.some)
