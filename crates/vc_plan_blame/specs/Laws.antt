-- Laws of blame: each way in which sources contradict each other has a culprit.
use Rattle.std.specs.Prelude.{◌≡◌, ℕ, true, false, ◌&&◌, ◌||◌, List, [], ◌∷◌, ◌++◌, Option, None, Some}
use Rattle.std.specs.List.{list_all, list_any}
use Rattle.vc_base.specs.Chains.{cited}
use Rattle.vc_base.specs.Rounds.{broken, is_clash}
use Rattle.vc_plan.specs.declared.atoms.Atom.{Atom}
use Rattle.vc_plan.specs.declared.atoms.Clash.{Clash}
use Rattle.vc_plan.specs.declared.atoms.Culprit.{Culprit}
use Rattle.vc_plan.specs.declared.atoms.Step.{Step}
use Rattle.vc_plan.specs.declared.plans.Plan.{Plan}
use Rattle.vc_plan.specs.declared.shown.Status.{Status}
use Rattle.vc_plan.specs.Clear.{is_clear, is_exhausted}
use Rattle.vc_plan.specs.Evaluate.{Users}
use Rattle.vc_plan.specs.Fitting.{users_fit}
use Rattle.vc_plan.specs.Gives.{Giver, gives}
use Rattle.vc_plan.specs.Seen.{seen_of}
use Rattle.vc_plan.specs.Settle.{settlement_of}
use Rattle.vc_plan.specs.Sources.{Sources}
use Rattle.vc_plan.specs.Valid.{IsValid}
use Rattle.vc_plan_reasons.specs.Blaming.{IsStatus}
use Rattle.vc_plan_reasons.specs.Checking.{are_of, concluded, is_accepted, set_with}
use Rattle.vc_plan_reasons.specs.Fitting.{sources_fit}
use Rattle.vc_plan_reasons.specs.Refuting.{refutes, set_without}
use Rattle.vc_plan_reasons.specs.Things.{giver_reads}
use Rattle.vc_plan_blame.specs.Blame.{are_at_odds, blame, clash_by, clash_citing, clash_of, culprit_giving, culprit_of}
use Rattle.vc_plan_blame.specs.Blame.{exhausted_by, exhausting, is_out, uses_up}

-- there is a clash, and it refutes the sources
abbrev pub Blames : Plan → Sources → Option Clash → Type 0
Blames plan sources found = (clash : Clash) × (found ≡ Some clash) × (refutes plan sources clash ≡ true)

-- the steps are accepted with sources that fit a valid plan
pub record IsSettling (plan : Plan) (sources : Sources) (log : List Step) : Type 0 where
  pub valid : IsValid plan
  pub fits : sources_fit plan sources ≡ true
  pub accepts : is_accepted plan sources log ≡ true

-- a clash of accepted steps refutes where what it cites can't stand together, though without any one of it the rest
-- can, and
-- some of it has a culprit
abbrev pub CollidingIsBlamed : Type 0
CollidingIsBlamed = (plan : Plan) (sources : Sources) (log : List Step) (numbers : List ℕ) (premises : List Atom)
    (culprit : Culprit)
    → is_accepted plan sources log ≡ true → cited (concluded log) numbers ≡ Some premises
    → is_clear plan (set_with premises) ≡ false
    → list_all (λ atom. is_clear plan (set_without atom (set_with premises))) premises ≡ true
    → culprit_of plan log numbers ≡ Some culprit → refutes plan sources (clash_of log numbers culprit) ≡ true

-- and where a giver clashes at what is cited, of what it reads: then it has a culprit
abbrev pub ClashingIsBlamed : Type 0
ClashingIsBlamed = (plan : Plan) (sources : Sources) (log : List Step) (numbers : List ℕ) (premises : List Atom)
    (giver : Giver)
    → sources_fit plan sources ≡ true → is_accepted plan sources log ≡ true
    → cited (concluded log) numbers ≡ Some premises → is_clear plan (set_with premises) ≡ true
    → are_of (giver_reads plan giver) premises ≡ true
    → is_clash (gives plan sources giver (seen_of (set_with premises))) ≡ true
    → Blames plan sources (clash_by log numbers (culprit_giving sources giver))

-- where a variable has no grain left, the premises that say so refute
abbrev pub ExhaustedIsBlamed : Type 0
ExhaustedIsBlamed = (plan : Plan) (sources : Sources) (log : List Step) (v : ℕ) (numbers : List ℕ)
    → IsSettling plan sources log → is_exhausted plan (seen_of (set_with (concluded log))) v ≡ true
    → cited (concluded log) numbers ≡ Some (exhausting plan v) → Blames plan sources (clash_citing plan log numbers)

-- where none has, a value and that its grain is out refute
abbrev pub OutIsBlamed : Type 0
OutIsBlamed = (plan : Plan) (sources : Sources) (log : List Step) (a b : Atom) (numbers : List ℕ)
    → IsSettling plan sources log → exhausted_by plan (concluded log) ≡ None
    → cited (concluded log) numbers ≡ Some (a ∷ b ∷ [])
    → are_at_odds plan a b ≡ true → (is_out a || is_out b) ≡ true → Blames plan sources (clash_citing plan log numbers)

-- and where no grain of either is out, two values refute: they can't both be by the user or the rule of a last grain
abbrev pub ValuesAreBlamed : Type 0
ValuesAreBlamed = (plan : Plan) (sources : Sources) (log : List Step) (a b : Atom) (numbers : List ℕ)
    → IsSettling plan sources log → exhausted_by plan (concluded log) ≡ None
    → cited (concluded log) numbers ≡ Some (a ∷ b ∷ [])
    → are_at_odds plan a b ≡ true
    → list_any (λ o. is_out o && (are_at_odds plan a o || are_at_odds plan b o)) (concluded log) ≡ false
    → Blames plan sources (clash_citing plan log numbers)

-- a variable that an atom more exhausts is one whose grains the atom can use up
abbrev pub ExhaustedIsTouched : Type 0
ExhaustedIsTouched = (plan : Plan) (stand : List Atom) (atom : Atom) (v : ℕ) → is_clear plan (set_with stand) ≡ true
    → is_exhausted plan (seen_of (set_with (stand ++ atom ∷ []))) v ≡ true → uses_up plan v atom ≡ true

-- where one accepted step more makes a clear set unclear, the clash that blame finds refutes
abbrev pub UnclearIsBlamed : Type 0
UnclearIsBlamed = (plan : Plan) (sources : Sources) (log : List Step) (step : Step)
    → IsSettling plan sources (log ++ step ∷ []) → is_clear plan (set_with (concluded log)) ≡ true
    → is_clear plan (set_with (concluded (log ++ step ∷ []))) ≡ false
    → Blames plan sources (blame plan (log ++ step ∷ []) step.conclusion)

-- where settling is broken some clash refutes
abbrev pub BrokenIsBlamed : Type 0
BrokenIsBlamed = (plan : Plan) (sources : Sources) → IsValid plan → sources_fit plan sources ≡ true
    → settlement_of plan sources ≡ broken → (clash : Clash) × (refutes plan sources clash ≡ true)

-- so whatever the user set has a status
abbrev pub StatusIsThere : Type 0
StatusIsThere = (plan : Plan) (users : Users) → IsValid plan → users_fit plan users ≡ true
    → (status : Status) × IsStatus plan users status
