-- Laws of the plan of a model.
use Rattle.std.proofs.Common.{◌≡◌, List, [], ◌∷◌, map, refl, ap}
use Rattle.vc_compile_plan.specs.Laws.{DefinedPlansAreOnes}
use Rattle.vc_compile_plan.specs.Trees.{Spot, Term, Literal, Read, PartSum, PartCount, Applied, Joined, Condition}
use Rattle.vc_compile_plan.specs.Trees.{Always, Compared, IsIn, Specified, Holds, Filled, Not, And, Or, term_of}
use Rattle.vc_compile_plan.specs.Trees.{condition_of, kept_term, kept_condition}

-- a tree that is kept in memory is the same
kept_term_is : (p : Spot) (term : Term) → term_of (kept_term p term) ≡ term
kept_term_is p (Literal a) = refl
kept_term_is p (Read v) = refl
kept_term_is p (PartSum slot c) = refl
kept_term_is p (PartCount slot) = refl
kept_term_is p (Applied function a) = ap (Applied function) (kept_term_is p a)
kept_term_is p (Joined operator a b) = rw (kept_term_is p a, kept_term_is p b) refl

kept_condition_is : (p : Spot) (condition : Condition) → condition_of (kept_condition p condition) ≡ condition
kept_condition_is p Always = refl
kept_condition_is p (Compared r a b) = rw (kept_term_is p a, kept_term_is p b) refl
kept_condition_is p (IsIn v pieces) = refl
kept_condition_is p (Specified v) = refl
kept_condition_is p (Holds set text) = refl
kept_condition_is p (Filled set) = refl
kept_condition_is p (Not c) = ap Not (kept_condition_is p c)
kept_condition_is p (And c d) = rw (kept_condition_is p c, kept_condition_is p d) refl
kept_condition_is p (Or c d) = rw (kept_condition_is p c, kept_condition_is p d) refl

kept_terms_are : (p : Spot) (terms : List Term) → map term_of (map (kept_term p) terms) ≡ terms
kept_terms_are p [] = refl
kept_terms_are p (term ∷ terms) = rw (kept_term_is p term, kept_terms_are p terms) refl

kept_conditions_are : (p : Spot) (conditions : List Condition)
    → map condition_of (map (kept_condition p) conditions) ≡ conditions
kept_conditions_are p [] = refl
kept_conditions_are p (condition ∷ conditions) =
    rw (kept_condition_is p condition, kept_conditions_are p conditions) refl

pub defined_plans_are_ones : DefinedPlansAreOnes
defined_plans_are_ones p model tables = record {
  name = refl;
  version = refl;
  texts = refl;
  dependencies = refl;
  characteristics = refl;
  objects = refl;
  domains = refl;
  tables = refl;
  slots = refl;
  vars = refl;
  sets = refl;
  conditions = kept_conditions_are p _;
  terms = kept_terms_are p _;
  rules = refl;
  procedures = refl;
  lines = refl;
  operations = refl;
  guards = refl;
  requirements = refl;
}
