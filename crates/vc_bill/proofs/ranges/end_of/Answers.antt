-- Lines stand by their slots, so the search by halves finds where those of the slot end.
use Rattle.std.proofs.Common.{rules}
use Rattle.std.specs.Prelude.{nat_le}
use Rattle.std.proofs.lemmas.List.Sorted.{IsPartitionPoint-from_clause, IsPartitionedBy-leb}
use Rattle.vc_plan.specs.declared.plans.Line.{Line}
use Rattle.vc_rule_readings.proofs.KeyLemmas.{most_before, above_after, keys_rise}
use Rattle.vc_bill.proofs.ranges.end_of.Goals as goal

pub returns-clause-before : goal.returns-clause-before
returns-clause-before c =
    let key = λ (line : Line). line.slot in
    let lines = c.args.lines.now in
    let n = c.partition_point.result in
    let point = IsPartitionPoint-from_clause (λ (x : Line). nat_le x.slot c.args.slot) lines n
    c.partition_point.ensures.partitioned (IsPartitionedBy-leb key lines c.args.slot (keys_rise key lines c.requires))
    (λ a r f called. search rules) in
    most_before key lines c.args.slot n point

pub returns-clause-after : goal.returns-clause-after
returns-clause-after c =
    let key = λ (line : Line). line.slot in
    let lines = c.args.lines.now in
    let n = c.partition_point.result in
    let point = IsPartitionPoint-from_clause (λ (x : Line). nat_le x.slot c.args.slot) lines n
    c.partition_point.ensures.partitioned (IsPartitionedBy-leb key lines c.args.slot (keys_rise key lines c.requires))
    (λ a r f called. search rules) in
    above_after key lines c.args.slot n point
