-- And where they end.
use Rattle.std.proofs.Common.{rules}
use Rattle.std.specs.Prelude.{nat_le}
use Rattle.std.proofs.lemmas.List.Sorted.{IsPartitionPoint-from_clause, IsPartitionedBy-leb}
use Rattle.vc_plan.specs.declared.plans.Guard.{Guard}
use Rattle.vc_rule_readings.proofs.KeyLemmas.{above_after, keys_rise, most_before}
use Rattle.vc_show.specs.Places.{slot_of_guard}
use Rattle.vc_show.proofs.guarding.end_of.Goals as goal

pub returns-clause-before : goal.returns-clause-before
returns-clause-before c =
    let key = slot_of_guard c.args.plan.now in
    let guards = c.args.guards.now in
    let n = c.partition_point.result in
    let point = IsPartitionPoint-from_clause (λ (x : Guard). nat_le (key x) c.args.slot) guards n
    c.partition_point.ensures.partitioned (IsPartitionedBy-leb key guards c.args.slot (keys_rise key guards c.requires))
    (λ a r f called. search rules) in
    most_before key guards c.args.slot n point

pub returns-clause-after : goal.returns-clause-after
returns-clause-after c =
    let key = slot_of_guard c.args.plan.now in
    let guards = c.args.guards.now in
    let n = c.partition_point.result in
    let point = IsPartitionPoint-from_clause (λ (x : Guard). nat_le (key x) c.args.slot) guards n
    c.partition_point.ensures.partitioned (IsPartitionedBy-leb key guards c.args.slot (keys_rise key guards c.requires))
    (λ a r f called. search rules) in
    above_after key guards c.args.slot n point
