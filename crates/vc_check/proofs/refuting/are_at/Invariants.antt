-- What those from here on say is what all say: those before don't decide it.
use Rattle.std.proofs.Common.{◌≡◌, [], ◌∷◌, length}
use Rattle.vc_plan_reasons.specs.Checking.{are_of}
use Rattle.vc_plan_reasons.specs.Things.{slot_at}
use Rattle.vc_check.proofs.refuting.are_at.Given as goal

abbrev pub invariant-loop-rest : goal.invariant-loop-rest
invariant-loop-rest l =
    are_of (slot_at l.slot ∷ []) l.rest ≡ are_of (slot_at l.slot ∷ []) l.premises

abbrev pub decreases-loop-rest : goal.decreases-loop-rest
decreases-loop-rest l = length l.rest
