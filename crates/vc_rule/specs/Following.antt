-- What is found by a rule follows from its premises alone, as who checks reasons has it.
use Rattle.std.specs.Prelude.{◌≡◌, ℕ, true, false, List, [], ◌∷◌, ◌++◌, slice_get, Some}
use Rattle.std.specs.List.{AllByRecursion}
use Rattle.vc_base.specs.Chains.{cited}
use Rattle.vc_base.specs.Sets.{has, Within}
use Rattle.vc_plan.specs.declared.atoms.Atom.{Atom}
use Rattle.vc_plan.specs.declared.atoms.Clash.{Clash}
use Rattle.vc_plan.specs.declared.atoms.Culprit.TheVariants as culprits
use Rattle.vc_plan.specs.declared.atoms.Origin.{Origin}
use Rattle.vc_plan.specs.declared.atoms.Origin.TheVariants as origins
use Rattle.vc_plan.specs.declared.atoms.Step.{Step}
use Rattle.vc_plan.specs.declared.plans.Plan.{Plan}
use Rattle.vc_plan.specs.Clear.{is_clear}
use Rattle.vc_plan.specs.Seen.{Seen, same_atom, says, seen_of}
use Rattle.vc_plan.specs.Sources.{Sources}
use Rattle.vc_plan_reasons.specs.Checking.{concluded, follows, is_accepted, set_with}
use Rattle.vc_plan_reasons.specs.Refuting.{is_clash_at, refutes}
use Rattle.vc_rule_yield.specs.Yielding.{Conclusion}
use Rattle.vc_rule_premises.specs.Saying.{Said, clashing, concluding}
use Rattle.vc_rule_premises.specs.Sufficing.{each_premise}
use Rattle.vc_rule.specs.Evaluating.{found_at}

-- the step by a rule that concludes an atom from steps of these numbers
abbrev pub step_by : ℕ → Atom → List ℕ → Step
step_by r atom numbers = record { conclusion = atom; origin = origins.Rule r; premises = numbers }

-- the clash by a rule that cites steps of these numbers
abbrev pub clash_by : ℕ → List Step → List ℕ → Clash
clash_by r log numbers = record { steps = log; culprit = culprits.Rule r; premises = numbers }

-- a conclusion follows from its premises, by whatever numbers they are cited
abbrev pub IsStep : Plan → Sources → ℕ → Conclusion → Type 0
IsStep plan sources r conclusion =
    (numbers : List ℕ) → follows plan sources (step_by r conclusion.atom numbers) conclusion.premises ≡ true

-- so do all that are said; at the premises of a clash the rule clashes
abbrev pub AllFollow : Plan → Sources → ℕ → Said → Type 0
AllFollow plan sources r (clashing premises) = is_clash_at plan sources (culprits.Rule r) premises ≡ true
AllFollow plan sources r (concluding conclusions) = AllByRecursion (IsStep plan sources r) conclusions

-- what is found at a clear set in which the root is here
abbrev pub FoundFollows : Type 0
FoundFollows = (plan : Plan) (sources : Sources) (set : List Atom) (r : ℕ) → is_clear plan (set_with set) ≡ true
    → AllFollow plan sources r (found_at plan (seen_of (set_with set)) r)

-- each premise is of the set, beside that the root is here
abbrev pub FoundIsConcluded : Type 0
FoundIsConcluded = (plan : Plan) (set : List Atom) (r : ℕ)
    → each_premise (has same_atom set) (found_at plan (seen_of (set_with set)) r) ≡ true

-- and no conclusion stands yet
abbrev pub IsNew : Seen → Said → Type 0
IsNew seen (clashing premises) = Unit {0}
IsNew seen (concluding conclusions) = AllByRecursion (λ conclusion. says seen conclusion.atom ≡ false) conclusions

abbrev pub FoundIsNew : Type 0
FoundIsNew = (plan : Plan) (seen : Seen) (r : ℕ) → IsNew seen (found_at plan seen r)

-- an atom may come next to a log by an origin: its premises are concluded there, and it follows from them, by whatever
-- numbers they are cited
pub record IsNext (plan : Plan) (sources : Sources) (log : List Step) (atom : Atom) (origin : Origin)
    (premises : List Atom) : Type 0 where
  pub there : Within same_atom premises (concluded log)
  pub from : (numbers : List ℕ)
      → follows plan sources (record { conclusion = atom; origin = origin; premises = numbers }) premises ≡ true

-- each conclusion found at what a log concludes may, by the rule
abbrev pub FoundIsNext : Type 0
FoundIsNext = (plan : Plan) (sources : Sources) (log : List Step) (r : ℕ) (conclusions : List Conclusion) (n : ℕ)
    (conclusion : Conclusion)
    → is_clear plan (set_with (concluded log)) ≡ true
    → found_at plan (seen_of (set_with (concluded log))) r ≡ concluding conclusions
    → slice_get conclusions n ≡ Some conclusion
    → IsNext plan sources log conclusion.atom (origins.Rule r) conclusion.premises

-- and still when other steps have come before it
abbrev pub NextMayWait : Type 0
NextMayWait = (plan : Plan) (sources : Sources) (log more : List Step) (atom : Atom) (origin : Origin)
    (premises : List Atom)
    → IsNext plan sources log atom origin premises → IsNext plan sources (log ++ more) atom origin premises

-- an accepted log goes on with it
abbrev pub NextIsAccepted : Type 0
NextIsAccepted = (plan : Plan) (sources : Sources) (log : List Step) (atom : Atom) (origin : Origin)
    (premises : List Atom) (numbers : List ℕ)
    → is_accepted plan sources log ≡ true → IsNext plan sources log atom origin premises
    → cited (concluded log) numbers ≡ Some premises
    → is_accepted plan sources (log ++ record { conclusion = atom; origin = origin; premises = numbers } ∷ []) ≡ true

-- a clash found at what an accepted log concludes refutes the sources
abbrev pub FoundRefutes : Type 0
FoundRefutes = (plan : Plan) (sources : Sources) (log : List Step) (r : ℕ) (premises : List Atom) (numbers : List ℕ)
    → is_accepted plan sources log ≡ true → is_clear plan (set_with (concluded log)) ≡ true
    → found_at plan (seen_of (set_with (concluded log))) r ≡ clashing premises
    → cited (concluded log) numbers ≡ Some premises → refutes plan sources (clash_by r log numbers) ≡ true
