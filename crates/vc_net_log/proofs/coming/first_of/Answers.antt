-- Variables stand by their slots, so the search by halves finds where those of the slot begin.
use Rattle.std.proofs.Common.{rules}
use Rattle.std.specs.Prelude.{nat_lt}
use Rattle.std.proofs.lemmas.List.Sorted.{IsPartitionPoint-from_clause}
use Rattle.vc_plan.specs.declared.plans.Var.{Var}
use Rattle.vc_net_log.proofs.ScanLaws.{slot_after, slot_before, slots_parted}
use Rattle.vc_net_log.proofs.coming.first_of.Goals as goal

pub returns-clause-before : goal.returns-clause-before
returns-clause-before c =
    let vars = c.args.vars.now in
    let n = c.partition_point.result in
    let point = IsPartitionPoint-from_clause (λ (x : Var). nat_lt x.slot c.args.slot) vars n
    c.partition_point.ensures.partitioned (slots_parted vars c.args.slot c.requires) (λ a r f called. search rules) in
    slot_before vars c.args.slot n point

pub returns-clause-after : goal.returns-clause-after
returns-clause-after c =
    let vars = c.args.vars.now in
    let n = c.partition_point.result in
    let point = IsPartitionPoint-from_clause (λ (x : Var). nat_lt x.slot c.args.slot) vars n
    c.partition_point.ensures.partitioned (slots_parted vars c.args.slot c.requires) (λ a r f called. search rules) in
    slot_after vars c.args.slot n point
