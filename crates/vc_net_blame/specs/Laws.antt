-- Laws of whom to blame.
use Rattle.std.specs.Prelude.{◌≡◌, ◌≤◌, ℕ, true, false, List, [], ◌∷◌, ◌++◌, length, map, Some}
use Rattle.vc_base.specs.Chains.{cited}
use Rattle.vc_plan.specs.declared.atoms.Atom.{Atom}
use Rattle.vc_plan.specs.declared.atoms.Culprit.{Culprit}
use Rattle.vc_plan.specs.declared.atoms.Step.{Step}
use Rattle.vc_plan.specs.declared.plans.Plan.{Plan}
use Rattle.vc_plan.specs.Clear.{is_clear}
use Rattle.vc_plan.specs.Sources.{Sources}
use Rattle.vc_plan_reasons.specs.Checking.{concluded, set_with}
use Rattle.vc_plan_reasons.specs.Refuting.{refutes}
use Rattle.vc_plan_blame.specs.Blame.{clash_of, number_of}
use Rattle.vc_plan_blame.specs.Laws.{IsSettling}
use Rattle.vc_net_standing.specs.declared.standing.Fact.{Fact}
use Rattle.vc_net_standing.specs.Standing.{atoms_of}
use Rattle.vc_net_blame.specs.Finding.{colliding_with, collision_bound, culprit_for}

-- the facts are those of the steps, in order
pub record AreFactsOf (facts : List Fact) (steps : List Step) : Type 0 where
  pub atoms : atoms_of facts ≡ concluded steps
  pub origins : map (λ fact. fact.origin) facts ≡ map (λ step. step.origin) steps

-- the fact is that of the step
pub record IsFactOf (fact : Fact) (step : Step) : Type 0 where
  pub atom : fact.atom ≡ step.conclusion
  pub origin : fact.origin ≡ step.origin

-- the numbers of the first steps that conclude these atoms
abbrev pub numbers_of : List Step → List Atom → List ℕ
numbers_of steps premises = map (number_of (concluded steps)) premises

-- a culprit is found, and with it the clash of the steps that cites the premises refutes
pub record IsBlamed (plan : Plan) (sources : Sources) (facts : List Fact) (fact : Fact) (steps : List Step)
    : Type 0 where
  pub culprit : Culprit
  pub is : culprit_for plan (facts ++ fact ∷ []) (colliding_with plan facts fact.atom) ≡ Some culprit
  pub cites : cited (concluded steps) (numbers_of steps (colliding_with plan facts fact.atom))
      ≡ Some (colliding_with plan facts fact.atom)
  pub refuting : refutes plan sources (clash_of steps (numbers_of steps (colliding_with plan facts fact.atom)) culprit)
      ≡ true

-- where the fact of one accepted step more makes a clear set unclear
abbrev pub UnclearIsBlamed : Type 0
UnclearIsBlamed = (plan : Plan) (sources : Sources) (log : List Step) (step : Step) (facts : List Fact) (fact : Fact)
    → IsSettling plan sources (log ++ step ∷ []) → is_clear plan (set_with (concluded log)) ≡ true
    → is_clear plan (set_with (concluded (log ++ step ∷ []))) ≡ false
    → AreFactsOf facts log → IsFactOf fact step
    → IsBlamed plan sources facts fact (log ++ step ∷ [])

-- the premises are no more than the bound
abbrev pub CollisionsFit : Type 0
CollisionsFit = (plan : Plan) (facts : List Fact) (atom : Atom)
    → length (colliding_with plan facts atom) ≤ collision_bound plan
