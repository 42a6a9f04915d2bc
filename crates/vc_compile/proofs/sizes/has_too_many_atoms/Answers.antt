use Rattle.std.proofs.Common.{◌+◌, ◌≤◌, sym, arith}
use Rattle.vc_plan.specs.Domains.{atom_count}
use Rattle.vc_plan.proofs.PlanLaws.Counts.{atoms_next, atoms_within}
use Rattle.vc_compile_plan.specs.Refusals.{most_atoms}
use Rattle.vc_compile.proofs.Above.{above}
use Rattle.vc_compile.proofs.sizes.has_too_many_atoms.Goals as goal

pub returns-then-grains-count : goal.returns-then-grains-count
returns-then-grains-count c =
    let within : c.loop-var.count + (c.count_of-grains.result + 1) ≤ atom_count c.args.plan.now
    = atoms_within c.args.plan.now c.loop-var.count c.loop-var.var c.count_of-grains.result c.loop-var.invariant.is
    c.count_of-grains.ensures
    (omega (arith, c.loop-var-test.true, c.len-var-end.ensures)) in
    sym (above most_atoms (atom_count c.args.plan.now)
    (omega (arith, c.if-grains-count.true, c.loop-var.invariant.few)))

pub loop-var-preserved : goal.loop-var-preserved
loop-var-preserved c = record {
  is = atoms_next c.args.plan.now c.loop-var.count c.loop-var.var c.count_of-grains.result c.loop-var.invariant.is
      c.count_of-grains.ensures;
  counted = omega (arith, c.loop-var.invariant.counted);
  few = omega (arith, c.if-grains-count.false, c.loop-var.invariant.few);
}
