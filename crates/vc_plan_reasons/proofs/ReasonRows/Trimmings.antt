-- What is left of lists of steps of PUMP without those in vain.
use Rattle.std.proofs.Common.{◌≡◌, List, [], ◌∷◌, true, false, map, refl}
use Rattle.std.specs.Prelude.{◌≢◌}
use Rattle.vc_value.specs.declared.value.Value.TheVariants.{Text}
use Rattle.vc_plan.specs.declared.atoms.Atom.TheVariants.{Out, Is}
use Rattle.vc_plan.specs.declared.atoms.Culprit.TheVariants as culprits
use Rattle.vc_plan.specs.declared.atoms.Origin.TheVariants.{Rule}
use Rattle.vc_plan.specs.declared.atoms.Step.{Step}
use Rattle.vc_plan.proofs.PlanRows.Models.{whole}
use Rattle.vc_plan_reasons.specs.Trimming.{needed, trimmed, trimmed_chain, trimmed_clash}
use Rattle.vc_plan_reasons.proofs.ReasonRows.Steps.{by_user, clash_of, large_size, no_e1, no_e2, step, why_motor}

-- the flow, the size, and that the motor isn't E1 and not E2; then that it is E3, and that the size isn't S
abbrev log : List Step
log =
    by_user 2 (whole 5) ∷ large_size ∷ no_e1 (2 ∷ []) ∷ no_e2 (0 ∷ 2 ∷ []) ∷ step (Is 1 (Text 5)) (Rule 2) (3 ∷ 4 ∷ [])
    ∷ step (Out 0 0) (Rule 0) (3 ∷ []) ∷ []

-- the steps that the motor needs, and those of the last step
motor_needs : needed (5 ∷ []) 1 log ≡ false ∷ true ∷ true ∷ true ∷ true ∷ false ∷ []
motor_needs = refl

last_needs : needed (6 ∷ []) 1 log ≡ false ∷ true ∷ true ∷ false ∷ false ∷ true ∷ []
last_needs = refl

-- a step that a step in vain cites is in vain
through_vain : needed (4 ∷ []) 1 log ≢ false ∷ true ∷ true ∷ true ∷ false ∷ false ∷ []
through_vain e = cc

-- they are numbered anew, and number 0 stays
motor_left : trimmed (5 ∷ []) log
    ≡ large_size ∷ no_e1 (1 ∷ []) ∷ no_e2 (0 ∷ 1 ∷ []) ∷ step (Is 1 (Text 5)) (Rule 2) (2 ∷ 3 ∷ []) ∷ []
motor_left = refl

last_left : trimmed_chain log ≡ large_size ∷ no_e1 (1 ∷ []) ∷ step (Out 0 0) (Rule 0) (2 ∷ []) ∷ []
last_left = refl

numbered_as_before : map (λ s. s.premises) (trimmed_chain log) ≢ [] ∷ (2 ∷ []) ∷ (3 ∷ []) ∷ []
numbered_as_before e = cc

-- nothing is in vain of a chain
chain_left : trimmed_chain why_motor ≡ why_motor
chain_left = refl

-- a clash's own numbers too
clash_left : trimmed_clash (clash_of log (culprits.Rule 0) (2 ∷ 6 ∷ []))
    ≡ clash_of (large_size ∷ no_e1 (1 ∷ []) ∷ step (Out 0 0) (Rule 0) (2 ∷ []) ∷ []) (culprits.Rule 0) (1 ∷ 3 ∷ [])
clash_left = refl
