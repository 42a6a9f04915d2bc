-- Terms and conditions of a plan, without the places of their nodes in memory. Trees are compared by these: two that
-- are
-- equal may stand at different places.
use Rattle.std.specs.Prelude.{ℕ, List, Box}
use Rattle.std.specs.declared.alloc.Global.{Global}
use Rattle.vc_value.specs.declared.value.Value.{Value}
use Rattle.vc_plan.specs.declared.conditions.Condition.{Condition as StoredCondition}
use Rattle.vc_plan.specs.declared.conditions.Condition.TheVariants as conditions
use Rattle.vc_plan.specs.declared.conditions.Piece.{Piece}
use Rattle.vc_plan.specs.declared.conditions.Relation.{Relation}
use Rattle.vc_plan.specs.declared.terms.Function.{Function}
use Rattle.vc_plan.specs.declared.terms.Operator.{Operator}
use Rattle.vc_plan.specs.declared.terms.Term.{Term as StoredTerm}
use Rattle.vc_plan.specs.declared.terms.Term.TheVariants as terms

-- a term
pub data Term : Type 0 where
  Literal : Value → Term
  Read : ℕ → Term
  PartSum : ℕ → ℕ → Term
  PartCount : ℕ → Term
  Applied : Function → Term → Term
  Joined : Operator → Term → Term → Term

-- a condition
pub data Condition : Type 0 where
  Always : Condition
  Compared : Relation → Term → Term → Condition
  IsIn : ℕ → List Piece → Condition
  Specified : ℕ → Condition
  Holds : ℕ → ℕ → Condition
  Filled : ℕ → Condition
  Not : Condition → Condition
  And : Condition → Condition → Condition
  Or : Condition → Condition → Condition

-- the tree that is kept in memory
abbrev pub term_of : StoredTerm → Term
term_of (terms.Literal a) = Literal a
term_of (terms.Read v) = Read v
term_of (terms.PartSum slot c) = PartSum slot c
term_of (terms.PartCount slot) = PartCount slot
term_of (terms.Applied' function p a) = Applied function (term_of a)
term_of (terms.Joined' operator p a q b) = Joined operator (term_of a) (term_of b)

abbrev pub condition_of : StoredCondition → Condition
condition_of conditions.Always = Always
condition_of (conditions.Compared r a b) = Compared r (term_of a) (term_of b)
condition_of (conditions.IsIn v pieces) = IsIn v pieces
condition_of (conditions.Specified v) = Specified v
condition_of (conditions.Holds set text) = Holds set text
condition_of (conditions.Filled set) = Filled set
condition_of (conditions.Not' p c) = Not (condition_of c)
condition_of (conditions.And' p c q d) = And (condition_of c) (condition_of d)
condition_of (conditions.Or' p c q d) = Or (condition_of c) (condition_of d)

-- a tree kept in memory, all of its nodes at one place; what a plan says doesn't depend on places
abbrev pub Spot : Type 0
Spot = Box (Unit {0}) Global

abbrev pub kept_term : Spot → Term → StoredTerm
kept_term p (Literal a) = terms.Literal a
kept_term p (Read v) = terms.Read v
kept_term p (PartSum slot c) = terms.PartSum slot c
kept_term p (PartCount slot) = terms.PartCount slot
kept_term p (Applied function a) = terms.Applied' function p (kept_term p a)
kept_term p (Joined operator a b) = terms.Joined' operator p (kept_term p a) p (kept_term p b)

abbrev pub kept_condition : Spot → Condition → StoredCondition
kept_condition p Always = conditions.Always
kept_condition p (Compared r a b) = conditions.Compared r (kept_term p a) (kept_term p b)
kept_condition p (IsIn v pieces) = conditions.IsIn v pieces
kept_condition p (Specified v) = conditions.Specified v
kept_condition p (Holds set text) = conditions.Holds set text
kept_condition p (Filled set) = conditions.Filled set
kept_condition p (Not c) = conditions.Not' p (kept_condition p c)
kept_condition p (And c d) = conditions.And' p (kept_condition p c) p (kept_condition p d)
kept_condition p (Or c d) = conditions.Or' p (kept_condition p c) p (kept_condition p d)
