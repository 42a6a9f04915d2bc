-- That a term is computed without a number too wide.
use Rattle.std.specs.Prelude.{◌≡◌, slice_get, ℕ, ℤ, ◌-◌, ◌*◌, ◌^◌, ◌≤◌, ◌+ℤ◌, ◌-ℤ◌, ◌*ℤ◌, unsigned_abs, true, false}
use Rattle.std.specs.Prelude.{Option, None, Some}
use Rattle.std.specs.List.{list_all}
use Rattle.vc_value.specs.declared.value.Value.{Value}
use Rattle.vc_value.specs.Millionths.{one}
use Rattle.vc_plan.specs.declared.conditions.Condition.{Condition}
use Rattle.vc_plan.specs.declared.conditions.Condition.TheVariants.{Always, Compared, IsIn, Specified, Holds, Filled}
use Rattle.vc_plan.specs.declared.conditions.Condition.TheVariants.{Not', And', Or'}
use Rattle.vc_plan.specs.declared.plans.Plan.{Plan}
use Rattle.vc_plan.specs.declared.terms.Operator.{Operator}
use Rattle.vc_plan.specs.declared.terms.Operator.TheVariants.{Plus, Minus, Times, Over}
use Rattle.vc_plan.specs.declared.terms.Term.{Term}
use Rattle.vc_plan.specs.declared.terms.Term.TheVariants.{Literal, Read, PartSum, PartCount, Applied', Joined'}
use Rattle.vc_plan.specs.Domains.{grains_of, is_grain_with}
use Rattle.vc_plan.specs.Pieces.{lies_in, lies_in_some}
use Rattle.vc_plan.specs.Ranges.{domain_there, condition_there, term_there}
use Rattle.vc_plan.specs.Readings.{Reading}
use Rattle.vc_plan.specs.Seen.{Seen}
use Rattle.vc_plan.specs.Sizes.{condition_small, is_small}
use Rattle.vc_plan.specs.Truth.{number}
use Rattle.vc_plan.specs.Valid.{IsValid}

-- conditions and terms name what the plan has, and no step of them is too wide
pub record TermsFit (plan : Plan) : Type 0 where
  pub domains_there : list_all (domain_there plan) plan.domains ≡ true
  pub conditions_there : list_all (condition_there plan) plan.conditions ≡ true
  pub terms_there : list_all (term_there plan) plan.terms ≡ true
  pub conditions_small : list_all (condition_small plan) plan.conditions ≡ true
  pub terms_small : list_all (is_small plan) plan.terms ≡ true

-- a valid plan's do
abbrev pub ValidTermsFit : Type 0
ValidTermsFit = (plan : Plan) → IsValid plan → TermsFit plan

-- each value lies in a grain of its variable
abbrev pub LiesInGrains : Plan → Seen → Type 0
LiesInGrains plan seen = (v : ℕ) (a : Value) → seen.value v ≡ Some a → lies_in_some (grains_of plan v) a ≡ true

-- no grain that holds its variable's value is out, as in every clear set
abbrev pub ValuesAreLeft : Plan → Seen → Type 0
ValuesAreLeft plan seen = (v g : ℕ) (a : Value) → seen.value v ≡ Some a → is_grain_with plan v (lies_in a) g ≡ true
    → seen.out v g ≡ false

-- the argument of a function, where there is one, leaves room to round it
abbrev pub ArgumentFits : Option ℤ → Type 0
ArgumentFits None = Unit {0}
ArgumentFits (Some z) = unsigned_abs z ≤ 10 ^ 36 - 10 ^ 6

-- the size of what is computed first where two numbers are joined
abbrev pub load : Operator → ℤ → ℤ → ℕ
load Plus a b = unsigned_abs (a +ℤ b)
load Minus a b = unsigned_abs (a -ℤ b)
load Times a b = unsigned_abs (a *ℤ b)
load Over a b = unsigned_abs a * one

abbrev pub OperandsFit : Operator → Option ℤ → Option ℤ → Type 0
OperandsFit operator None b = Unit {0}
OperandsFit operator (Some a) None = Unit {0}
OperandsFit operator (Some a) (Some b) = load operator a b ≤ 10 ^ 36

-- no step of the term, or of the condition, is too wide
abbrev pub Computes : Reading → Term → Type 0
Computes reading (Literal a) = Unit {0}
Computes reading (Read v) = Unit {0}
Computes reading (PartSum slot characteristic) = Unit {0}
Computes reading (PartCount slot) = Unit {0}
Computes reading (Applied' function p a) = Computes reading a × ArgumentFits (number reading a)
Computes reading (Joined' operator p a q b) =
    Computes reading a × Computes reading b × OperandsFit operator (number reading a) (number reading b)

abbrev pub ConditionComputes : Reading → Condition → Type 0
ConditionComputes reading Always = Unit {0}
ConditionComputes reading (Compared r a b) = Computes reading a × Computes reading b
ConditionComputes reading (IsIn v pieces) = Unit {0}
ConditionComputes reading (Specified v) = Unit {0}
ConditionComputes reading (Holds set text) = Unit {0}
ConditionComputes reading (Filled set) = Unit {0}
ConditionComputes reading (Not' p c) = ConditionComputes reading c
ConditionComputes reading (And' p c q d) = ConditionComputes reading c × ConditionComputes reading d
ConditionComputes reading (Or' p c q d) = ConditionComputes reading c × ConditionComputes reading d

-- the number of a plan's term by its number; none where there is no such term
abbrev pub number_in_term : Reading → Option Term → Option ℤ
number_in_term reading None = None
number_in_term reading (Some term) = number reading term

abbrev pub number_at : Plan → Reading → ℕ → Option ℤ
number_at plan reading term = number_in_term reading (slice_get plan.terms term)
