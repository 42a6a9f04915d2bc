-- No step of the term is too wide.
use Rattle.std.proofs.Common.{ap, sym, ◌∙◌}
use Rattle.std.specs.Prelude.{slice_get}
use Rattle.vc_plan_values.proofs.TermLemmas.{term_at_computes}
use Rattle.vc_rule_readings.specs.Parted.{parted_reading}
use Rattle.vc_rule_readings.proofs.PartLemmas.{parted_bounded}
use Rattle.vc_rule_readings.proofs.procedures.parted_number.Goals as goal

pub number-requires-clause-computes : goal.number-requires-clause-computes
number-requires-clause-computes g c =
    let plan = c.args.plan.now in
    let seen = g.R.View.seen c.args.reading.now in
    let holds = g.R.Reading.holdings c.args.reading.now in
    term_at_computes plan c.requires.fit.terms (parted_reading plan seen holds)
    (parted_bounded plan c.requires.fit seen c.requires.values holds)
    c.args.term c.in-Some.term.now
    (ap (λ list. slice_get list c.args.term) (sym c.as_slice.ensures) ∙ c.in-Some.ensures.some)
