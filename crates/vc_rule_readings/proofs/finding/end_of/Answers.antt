-- And where they end.
use Rattle.std.proofs.Common.{rules}
use Rattle.std.specs.Prelude.{nat_le}
use Rattle.std.proofs.lemmas.List.Sorted.{IsPartitionPoint-from_clause, IsPartitionedBy-leb}
use Rattle.vc_rule_readings.proofs.KeyLemmas.{above_after, keys_rise}
use Rattle.vc_rule_readings.proofs.finding.end_of.Goals as goal

pub returns-clause-after : goal.returns-clause-after
returns-clause-after g c =
    let things = c.args.things.now in
    let n = c.partition_point.result in
    let point = IsPartitionPoint-from_clause (λ x. nat_le (g.T.AtSlot.slot_of x) c.args.slot) things n
    c.partition_point.ensures.partitioned
    (IsPartitionedBy-leb g.T.AtSlot.slot_of things c.args.slot (keys_rise g.T.AtSlot.slot_of things c.requires))
    (λ a r f called. search rules) in
    above_after g.T.AtSlot.slot_of things c.args.slot n point
