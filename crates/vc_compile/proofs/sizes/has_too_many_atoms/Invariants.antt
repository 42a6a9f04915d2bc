-- The count so far is that of the slots and of the variables before, of which each is counted; it is small.
use Rattle.std.proofs.Common.{◌≡◌, ℕ, ◌≤◌}
use Rattle.vc_compile_plan.specs.Refusals.{most_atoms}
use Rattle.vc_plan.proofs.PlanLaws.Counts.{atoms_before}
use Rattle.vc_compile.proofs.sizes.has_too_many_atoms.Given as goal

pub record Counts (count so_far var : ℕ) : Type 0 where
  pub is : count ≡ so_far
  pub counted : var ≤ count
  pub few : count ≤ most_atoms

abbrev pub invariant-loop-var : goal.invariant-loop-var
invariant-loop-var l = Counts l.count (atoms_before l.plan l.var) l.var
