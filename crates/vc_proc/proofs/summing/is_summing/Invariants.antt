-- What the statements from here on say is what all say.
use Rattle.std.proofs.Common.{◌≡◌, length}
use Rattle.std.specs.List.{list_any}
use Rattle.vc_plan.specs.Writes.{is_summing, statement_sums}
use Rattle.vc_proc.proofs.summing.is_summing.Given as goal

abbrev pub invariant-loop-rest : goal.invariant-loop-rest
invariant-loop-rest l = list_any (statement_sums l.plan) l.rest ≡ is_summing l.plan l.procedure

abbrev pub decreases-loop-rest : goal.decreases-loop-rest
decreases-loop-rest l = length l.rest
