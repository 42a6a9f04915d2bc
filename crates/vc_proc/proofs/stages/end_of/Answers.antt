-- And where they end.
use Rattle.std.proofs.Common.{ℕ, rules}
use Rattle.std.specs.Prelude.{nat_le}
use Rattle.std.proofs.lemmas.List.Sorted.{IsPartitionPoint-from_clause, IsPartitionedBy-leb}
use Rattle.vc_plan.specs.declared.procedures.Procedure.{Procedure}
use Rattle.vc_rule_readings.proofs.KeyLemmas.{above_after, keys_rise}
use Rattle.vc_proc.proofs.stages.end_of.Goals as goal

pub returns-clause-after : goal.returns-clause-after
returns-clause-after c =
    let slot_of : Procedure → ℕ = λ procedure. procedure.slot in
    let procedures = c.args.procedures.now in
    let n = c.partition_point.result in
    let point = IsPartitionPoint-from_clause (λ procedure. nat_le (slot_of procedure) c.args.slot) procedures n
    c.partition_point.ensures.partitioned
    (IsPartitionedBy-leb slot_of procedures c.args.slot (keys_rise slot_of procedures c.requires))
    (λ a r f called. search rules) in above_after slot_of procedures c.args.slot n point
