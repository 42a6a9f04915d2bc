-- Preconditions stand by their slots, so the search by halves finds where those of the slot begin.
use Rattle.std.proofs.Common.{rules}
use Rattle.std.specs.Prelude.{nat_lt}
use Rattle.std.proofs.lemmas.List.Sorted.{IsPartitionPoint-from_clause, IsPartitionedBy-ltb}
use Rattle.vc_plan.specs.declared.plans.Guard.{Guard}
use Rattle.vc_rule_readings.proofs.KeyLemmas.{below_before, keys_rise, least_after}
use Rattle.vc_show.specs.Places.{slot_of_guard}
use Rattle.vc_show.proofs.guarding.first_of.Goals as goal

pub returns-clause-before : goal.returns-clause-before
returns-clause-before c =
    let key = slot_of_guard c.args.plan.now in
    let guards = c.args.guards.now in
    let n = c.partition_point.result in
    let point = IsPartitionPoint-from_clause (λ (x : Guard). nat_lt (key x) c.args.slot) guards n
    c.partition_point.ensures.partitioned (IsPartitionedBy-ltb key guards c.args.slot (keys_rise key guards c.requires))
    (λ a r f called. search rules) in
    below_before key guards c.args.slot n point

pub returns-clause-after : goal.returns-clause-after
returns-clause-after c =
    let key = slot_of_guard c.args.plan.now in
    let guards = c.args.guards.now in
    let n = c.partition_point.result in
    let point = IsPartitionPoint-from_clause (λ (x : Guard). nat_lt (key x) c.args.slot) guards n
    c.partition_point.ensures.partitioned (IsPartitionedBy-ltb key guards c.args.slot (keys_rise key guards c.requires))
    (λ a r f called. search rules) in
    least_after key guards c.args.slot n point
