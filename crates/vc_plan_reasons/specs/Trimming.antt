-- Lists of steps without those that are in vain.
use Rattle.std.specs.Prelude.{◌≡◌, ℕ, zero, suc, Bool, true, false, not, ◌&&◌, ◌||◌, List, [], ◌∷◌, length, map}
use Rattle.std.specs.Prelude.{slice_index_or}
use Rattle.vc_base.specs.Chains.{is_among}
use Rattle.vc_base.specs.Kept.{number_left, without}
use Rattle.vc_plan.specs.declared.atoms.Atom.{Atom}
use Rattle.vc_plan.specs.declared.atoms.Clash.{Clash}
use Rattle.vc_plan.specs.declared.atoms.Step.{Step}
use Rattle.vc_plan.specs.declared.plans.Plan.{Plan}
use Rattle.vc_plan.specs.Sources.{Sources}
use Rattle.vc_plan_reasons.specs.Checking.{ends_with, is_accepted, is_chain_for, step_form}
use Rattle.vc_plan_reasons.specs.Refuting.{is_trimmed_clash, refutes}

-- whether a step that is needed cites the number; which of the steps are is told in their order
abbrev pub is_cited_by : ℕ → List Step → List Bool → Bool
is_cited_by n [] flags = false
is_cited_by n (step ∷ steps) [] = false
is_cited_by n (step ∷ steps) (flag ∷ flags) = (flag && is_among n step.premises) || is_cited_by n steps flags

-- of each step whether it is needed: the ending or a needed later step cites it. The first has this number
abbrev pub needed : List ℕ → ℕ → List Step → List Bool
needed ending n [] = []
needed ending n (step ∷ later) =
    let flags = needed ending (suc n) later in (is_among n ending || is_cited_by n later flags) ∷ flags

-- whether the step of this number is in vain
abbrev pub is_vain : List Bool → ℕ → Bool
is_vain flags zero = false
is_vain flags (suc n) = not (slice_index_or flags n true)

-- the steps that an ending needs, renumbered; and a chain's, whose ending is its last step
abbrev pub trimmed : List ℕ → List Step → List Step
trimmed ending steps = without step_form (is_vain (needed ending 1 steps)) 1 steps

abbrev pub trimmed_chain : List Step → List Step
trimmed_chain steps = trimmed (length steps ∷ []) steps

-- the ending's numbers, as those steps are numbered then; and a clash, which is the ending of its steps
abbrev pub numbers_left : List ℕ → List Step → List ℕ
numbers_left ending steps = map (number_left (is_vain (needed ending 1 steps))) ending

abbrev pub trimmed_clash : Clash → Clash
trimmed_clash clash = record clash {
  steps = trimmed clash.premises clash.steps;
  premises = numbers_left clash.premises clash.steps;
}

-- what an accepted list has left is accepted, whatever ending it is trimmed for
abbrev pub TrimmingKeepsAcceptance : Type 0
TrimmingKeepsAcceptance = (plan : Plan) (sources : Sources) (ending : List ℕ) (steps : List Step)
    → is_accepted plan sources steps ≡ true → is_accepted plan sources (trimmed ending steps) ≡ true

-- so an accepted list that ends with an atom, trimmed, is a chain of reasons for it
abbrev pub TrimmedIsAChain : Type 0
TrimmedIsAChain = (plan : Plan) (sources : Sources) (atom : Atom) (steps : List Step)
    → is_accepted plan sources steps ≡ true → ends_with atom steps ≡ true
    → is_chain_for plan sources atom (trimmed_chain steps) ≡ true

-- and a clash that refutes, trimmed, refutes, and none of its steps is in vain
abbrev pub TrimmedClashesRefute : Type 0
TrimmedClashesRefute = (plan : Plan) (sources : Sources) (clash : Clash) → refutes plan sources clash ≡ true
    → (refutes plan sources (trimmed_clash clash) ≡ true) × (is_trimmed_clash (trimmed_clash clash) ≡ true)
