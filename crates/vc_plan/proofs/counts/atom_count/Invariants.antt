use Rattle.std.specs.Prelude.{◌≡◌}
use Rattle.vc_plan.proofs.PlanLaws.Counts.{atoms_before}
use Rattle.vc_plan.proofs.counts.atom_count.Given as goal

abbrev pub invariant-loop-var : goal.invariant-loop-var
invariant-loop-var l = l.count ≡ atoms_before l.plan l.var
