-- The number of a term of a plan can be rounded.
use Rattle.std.proofs.Common.{subst, sym}
use Rattle.vc_plan.specs.Truth.{number_of_value}
use Rattle.vc_plan.specs.Readings.{net_reading}
use Rattle.vc_plan_values.specs.Computing.{ArgumentFits}
use Rattle.vc_plan_values.proofs.StoredLemmas.{value_fits}
use Rattle.vc_plan_values.proofs.TermLemmas.{net_bounded}
use Rattle.vc_check_gives.proofs.equating.value_of_side.Goals as goal

pub returns-clause-small : goal.returns-clause-small
returns-clause-small g c =
    subst (λ a. ArgumentFits (number_of_value a)) (sym c.term_value.ensures)
    (value_fits c.args.plan.now c.requires.fit (net_reading (g.V.View.seen c.args.view.now))
    (net_bounded c.args.plan.now (g.V.View.seen c.args.view.now) c.requires.values) c.args.term)
