-- The count so far is that of the slots and of the variables before; it is at most that of all.
use Rattle.std.proofs.Common.{◌≡◌, ◌+◌, ◌≤◌, ◌∙◌, arith}
use Rattle.vc_plan.specs.Domains.{atom_count}
use Rattle.vc_plan.proofs.PlanLaws.Counts.{atoms_next, atoms_within, atoms_all, atoms_none}
use Rattle.vc_plan.proofs.counts.atom_count.Goals as goal

pub loop-var-init : goal.loop-var-init
loop-var-init c = c.len-count.ensures ∙ atoms_none c.args.plan.now

pub overflow_add-count : goal.overflow_add-count
overflow_add-count c =
    let most : c.loop-var.count + (c.grains_at.result + 1) ≤ atom_count c.args.plan.now
    = atoms_within c.args.plan.now c.loop-var.count c.loop-var.var c.grains_at.result c.loop-var.invariant
    c.grains_at.ensures (omega (arith, c.loop-var-test.true, c.len-var-end.ensures)) in
    omega (arith, c.requires)

pub overflow_add-count-in-loop-var : goal.overflow_add-count-in-loop-var
overflow_add-count-in-loop-var c =
    let most : c.loop-var.count + (c.grains_at.result + 1) ≤ atom_count c.args.plan.now
    = atoms_within c.args.plan.now c.loop-var.count c.loop-var.var c.grains_at.result c.loop-var.invariant
    c.grains_at.ensures (omega (arith, c.loop-var-test.true, c.len-var-end.ensures)) in
    omega (arith, c.requires)

pub loop-var-preserved : goal.loop-var-preserved
loop-var-preserved c =
    atoms_next c.args.plan.now c.loop-var.count c.loop-var.var c.grains_at.result c.loop-var.invariant
    c.grains_at.ensures

pub overflow_cast-result : goal.overflow_cast-result
overflow_cast-result c =
    let all : c.loop-var.count ≡ atom_count c.args.plan.now
    = atoms_all c.args.plan.now c.loop-var.count c.loop-var.var c.loop-var.invariant
    (omega (arith, c.loop-var-test.false, c.loop-var.auto.var-end, c.len-var-end.ensures)) in
    omega (arith, c.requires)

pub returns : goal.returns
returns c =
    atoms_all c.args.plan.now c.loop-var.count c.loop-var.var c.loop-var.invariant
    (omega (arith, c.loop-var-test.false, c.loop-var.auto.var-end, c.len-var-end.ensures))
