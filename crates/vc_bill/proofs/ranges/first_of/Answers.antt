-- Lines stand by their slots, so the search by halves finds where those of the slot begin.
use Rattle.std.proofs.Common.{rules}
use Rattle.std.specs.Prelude.{nat_lt}
use Rattle.std.proofs.lemmas.List.Sorted.{IsPartitionPoint-from_clause, IsPartitionedBy-ltb}
use Rattle.vc_plan.specs.declared.plans.Line.{Line}
use Rattle.vc_rule_readings.proofs.KeyLemmas.{below_before, least_after, keys_rise}
use Rattle.vc_bill.proofs.ranges.first_of.Goals as goal

pub returns-clause-before : goal.returns-clause-before
returns-clause-before c =
    let key = λ (line : Line). line.slot in
    let lines = c.args.lines.now in
    let n = c.partition_point.result in
    let point = IsPartitionPoint-from_clause (λ (x : Line). nat_lt x.slot c.args.slot) lines n
    c.partition_point.ensures.partitioned (IsPartitionedBy-ltb key lines c.args.slot (keys_rise key lines c.requires))
    (λ a r f called. search rules) in
    below_before key lines c.args.slot n point

pub returns-clause-after : goal.returns-clause-after
returns-clause-after c =
    let key = λ (line : Line). line.slot in
    let lines = c.args.lines.now in
    let n = c.partition_point.result in
    let point = IsPartitionPoint-from_clause (λ (x : Line). nat_lt x.slot c.args.slot) lines n
    c.partition_point.ensures.partitioned (IsPartitionedBy-ltb key lines c.args.slot (keys_rise key lines c.requires))
    (λ a r f called. search rules) in
    least_after key lines c.args.slot n point
