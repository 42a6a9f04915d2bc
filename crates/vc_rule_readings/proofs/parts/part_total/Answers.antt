-- What a slot adds comes before what those after it add.
use Rattle.std.proofs.Common.{◌-◌, length, map, refl, arith}
use Rattle.std.specs.List.{filter, range_with_len}
use Rattle.vc_plan.specs.declared.terms.Operator.TheVariants.{Plus}
use Rattle.vc_plan.specs.Parts.{total}
use Rattle.vc_plan.specs.Readings.{full_reading}
use Rattle.vc_plan_values.specs.Values.{count_if}
use Rattle.vc_rule_readings.specs.Summing.{addend, adds}
use Rattle.vc_rule_readings.proofs.PartLemmas.{addition_fits, operands_as}
use Rattle.vc_rule_readings.proofs.RangeLemmas.{total_down}
use Rattle.vc_rule_readings.proofs.parts.part_total.Goals as goal

pub with_part-sum-requires-clause-sum : goal.with_part-sum-requires-clause-sum
with_part-sum-requires-clause-sum g c =
    let plan = c.args.plan.now in
    let seen = g.R.View.seen c.args.reading.now in
    let holds = g.R.Reading.holdings c.args.reading.now in
    let added = addend plan (full_reading plan seen holds) c.args.named in
    let test = adds plan seen c.args.slot c.args.named in
    let part = c.loop-part.part in
    let rest = length plan.slots - part in
    operands_as Plus (added (part - 1)) (count_if c.loop-part.sum) (added (part - 1))
    (total (map added (filter test (range_with_len part rest))))
    (addition_fits plan c.requires.fit.terms seen c.requires.values holds c.args.named test (part - 1) part rest
    (omega (arith, c.requires.fit.few_slots)))
    refl c.loop-part.invariant.1

pub loop-part-preserved : goal.loop-part-preserved
loop-part-preserved g c =
    let plan = c.args.plan.now in
    let seen = g.R.View.seen c.args.reading.now in
    let holds = g.R.Reading.holdings c.args.reading.now in
    total_down (addend plan (full_reading plan seen holds) c.args.named) (adds plan seen c.args.slot c.args.named)
    c.loop-part.part
    (length plan.slots) (count_if c.loop-part.sum) (count_if c.with_part-sum.result)
    (omega (arith, c.loop-part-test.true))
    c.loop-part.invariant.0 c.loop-part.invariant.1 c.with_part-sum.ensures
