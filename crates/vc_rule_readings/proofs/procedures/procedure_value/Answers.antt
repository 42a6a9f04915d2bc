-- The number of a term can be rounded.
use Rattle.std.proofs.Common.{sym, subst}
use Rattle.vc_plan.specs.Truth.{number_of_value}
use Rattle.vc_plan_values.specs.Computing.{ArgumentFits}
use Rattle.vc_plan_values.proofs.StoredLemmas.{value_fits}
use Rattle.vc_rule_readings.specs.Beside.{seen_beside}
use Rattle.vc_rule_readings.specs.Parted.{parted_reading}
use Rattle.vc_rule_readings.proofs.PartLemmas.{parted_bounded}
use Rattle.vc_rule_readings.proofs.procedures.procedure_value.Goals as goal

pub returns-clause-fits : goal.returns-clause-fits
returns-clause-fits g c =
    let plan = c.args.plan.now in
    let seen = seen_beside (g.R.View.seen c.args.stage.now) (g.M.Marks.entries c.args.written.now) in
    let holds = g.R.Reading.holdings c.args.stage.now in
    subst (λ o. ArgumentFits (number_of_value o)) (sym c.parted_value.ensures)
    (value_fits plan c.requires.fit.terms (parted_reading plan seen holds)
    (parted_bounded plan c.requires.fit seen c.requires.values holds) c.args.term)
