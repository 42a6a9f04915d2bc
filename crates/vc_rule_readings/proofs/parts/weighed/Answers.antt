-- An amount times a value is small.
use Rattle.std.proofs.Common.{ap, ◌∙◌}
use Rattle.vc_plan.specs.declared.terms.Operator.TheVariants.{Times}
use Rattle.vc_plan.specs.Parts.{part_quantity}
use Rattle.vc_plan.specs.Readings.{full_reading}
use Rattle.vc_plan.specs.Truth.{number_of_value}
use Rattle.vc_plan_values.specs.Values.{count_if}
use Rattle.vc_rule_readings.proofs.PartLemmas.{weight_fits, operands_as}
use Rattle.vc_rule_readings.proofs.parts.weighed.Goals as goal

pub joined-requires : goal.joined-requires
joined-requires g c =
    let plan = c.args.plan.now in
    let seen = g.R.View.seen c.args.reading.now in
    let holds = g.R.Reading.holdings c.args.reading.now in
    operands_as Times (count_if c.wide_if-quantity.result) (count_if c.number_of_value.result)
    (part_quantity plan (full_reading plan seen holds) c.args.part) (number_of_value (seen.value c.args.var))
    (weight_fits plan c.requires.fit.terms seen c.requires.values holds c.args.part c.args.var)
    (c.wide_if-quantity.ensures ∙ c.part_quantity.ensures)
    (c.number_of_value.ensures ∙ ap number_of_value c.value.ensures)
