-- Procedures stand by their slots, so the search by halves finds where those of the slot begin.
use Rattle.std.proofs.Common.{ℕ, rules}
use Rattle.std.specs.Prelude.{nat_lt}
use Rattle.std.proofs.lemmas.List.Sorted.{IsPartitionPoint-from_clause, IsPartitionedBy-ltb}
use Rattle.vc_plan.specs.declared.procedures.Procedure.{Procedure}
use Rattle.vc_rule_readings.proofs.KeyLemmas.{below_before, keys_rise}
use Rattle.vc_proc.proofs.stages.begin_of.Goals as goal

pub returns-clause-before : goal.returns-clause-before
returns-clause-before c =
    let slot_of : Procedure → ℕ = λ procedure. procedure.slot in
    let procedures = c.args.procedures.now in
    let n = c.partition_point.result in
    let point = IsPartitionPoint-from_clause (λ procedure. nat_lt (slot_of procedure) c.args.slot) procedures n
    c.partition_point.ensures.partitioned
    (IsPartitionedBy-ltb slot_of procedures c.args.slot (keys_rise slot_of procedures c.requires))
    (λ a r f called. search rules) in below_before slot_of procedures c.args.slot n point
