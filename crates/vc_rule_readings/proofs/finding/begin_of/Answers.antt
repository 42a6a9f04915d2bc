-- Things stand by their slots, so the search by halves finds where those of the slot begin.
use Rattle.std.proofs.Common.{rules}
use Rattle.std.specs.Prelude.{nat_lt}
use Rattle.std.proofs.lemmas.List.Sorted.{IsPartitionPoint-from_clause, IsPartitionedBy-ltb}
use Rattle.vc_rule_readings.proofs.KeyLemmas.{below_before, keys_rise}
use Rattle.vc_rule_readings.proofs.finding.begin_of.Goals as goal

pub returns-clause-before : goal.returns-clause-before
returns-clause-before g c =
    let things = c.args.things.now in
    let n = c.partition_point.result in
    let point = IsPartitionPoint-from_clause (λ x. nat_lt (g.T.AtSlot.slot_of x) c.args.slot) things n
    c.partition_point.ensures.partitioned
    (IsPartitionedBy-ltb g.T.AtSlot.slot_of things c.args.slot (keys_rise g.T.AtSlot.slot_of things c.requires))
    (λ a r f called. search rules) in
    below_before g.T.AtSlot.slot_of things c.args.slot n point
