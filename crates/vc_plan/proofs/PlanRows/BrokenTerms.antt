-- Sizes of terms, and plans that break one fact alone by a place that is easily passed over.
use Rattle.std.proofs.Common.{◌≡◌, ℕ, ◌+◌, ◌^◌, pos, neg_ℤ, true, false, [], ◌∷◌, map, refl}
use Rattle.std.specs.Prelude.{codes, ◌==◌, ◌≢◌, Box}
use Rattle.std.specs.declared.alloc.Global.{Global}
use Rattle.vc_value.specs.Grains.{interval}
use Rattle.vc_value.specs.declared.table_header.Domain.TheVariants.{Nums}
use Rattle.vc_value.specs.declared.value.Value.TheVariants.{Text}
use Rattle.vc_plan.specs.declared.conditions.Condition.{Condition}
use Rattle.vc_plan.specs.declared.conditions.Condition.TheVariants.{Always, Compared, Specified, Not', And', Or'}
use Rattle.vc_plan.specs.declared.conditions.Relation.TheVariants.{Equal, Greater}
use Rattle.vc_plan.specs.declared.plans.Plan.{Plan}
use Rattle.vc_plan.specs.declared.rules.Kind.TheVariants.{Line, Never}
use Rattle.vc_plan.specs.declared.terms.Function.TheVariants.{Negative, Abs, Sign, Trunc, Floor, Ceil, Frac}
use Rattle.vc_plan.specs.declared.terms.Operator.TheVariants.{Minus, Over, Plus, Times}
use Rattle.vc_plan.specs.declared.terms.Term.{Term}
use Rattle.vc_plan.specs.declared.terms.Term.TheVariants.{Literal, Read, PartSum, PartCount, Applied', Joined'}
use Rattle.vc_plan.specs.Monotone.{condition_sums, has_part_sum, is_for_nets}
use Rattle.vc_plan.specs.Sizes.{is_small, term_size}
use Rattle.vc_plan.proofs.PlanRows.Facts.{Breaks, broken}
use Rattle.vc_plan.proofs.PlanRows.Models.{empty, fixed_var, from_to, last, number, own_rule, root, rule, whole}
use Rattle.vc_plan.proofs.PlanRows.SmallModels.{box}
use Rattle.vc_plan.proofs.PlanRows.WholeModels.{plain, whole_gear}

-- sizes: of a variable the greater end of its list on either side; of functions and joins what they may make
abbrev from_minus_9 : Plan
from_minus_9 = record empty {
  domains = Nums 0 (interval (neg_ℤ (pos 9_000_000)) (neg_ℤ (pos 3_000_000)) ∷ from_to 1 4 ∷ []) ∷ [];
  slots = root ∷ [];
  vars = fixed_var 0 ∷ [];
}

abbrev size : Term → ℕ
size = term_size from_minus_9

of_variable : size (Read 0) ≡ 9_000_000
of_variable = refl

of_functions : (p : Box (Unit {0}) Global)
    → map (λ f. size (Applied' f p (Literal (whole 5)))) (Negative ∷ Abs ∷ Sign ∷ Trunc ∷ Floor ∷ Ceil ∷ Frac ∷ [])
    ≡ 5_000_000 ∷ 5_000_000 ∷ 1_000_000 ∷ 5_000_000 ∷ 6_000_000 ∷ 6_000_000 ∷ 1_000_000 ∷ []
of_functions p = refl

of_joins : (p : Box (Unit {0}) Global)
    → map (λ o. size (Joined' o p (Literal (whole 5)) p (Read 0))) (Plus ∷ Minus ∷ Times ∷ Over ∷ [])
    ≡ 14_000_000 ∷ 14_000_000 ∷ 45_000_001 ∷ 5_000_000_000_000 ∷ []
of_joins p = refl

of_sums : (size (PartSum 0 0) ≡ 10 ^ 27) × (size (PartCount 0) ≡ 10 ^ 27)
of_sums = (refl, refl)

floor_as_trunc : (p : Box (Unit {0}) Global) → (size (Applied' Floor p (Literal (whole 5))) == 5_000_000) ≢ true
floor_as_trunc p e = cc

-- 10^36 less 10^6 millionths, the greatest size: a floor of it is too large, and so is one millionth more
abbrev over_1 : Box (Unit {0}) Global → Term → Term
over_1 p a = Joined' Over p a p (Literal (whole 1))

abbrev digits : ℕ → Term
digits n = Literal (number (pos n))

abbrev plus : Box (Unit {0}) Global → Term → Term → Term
plus p a b = Joined' Plus p a p b

abbrev greatest : Box (Unit {0}) Global → Term
greatest p =
    over_1 p
    (plus p (over_1 p (plus p (over_1 p (plus p (over_1 p (digits 999_999_999_999)) (digits 999_999)))
    (digits 999_999))) (digits 999_999))

greatest_size : (p : Box (Unit {0}) Global) → size (greatest p) + 10 ^ 6 ≡ 10 ^ 36
greatest_size p = refl

greatest_small : (p : Box (Unit {0}) Global)
    → map (is_small from_minus_9) (greatest p ∷ Applied' Trunc p (greatest p) ∷ Applied' Frac p (greatest p) ∷ [])
    ≡ true ∷ true ∷ true ∷ []
greatest_small p = refl

too_large : (p : Box (Unit {0}) Global)
    → map (is_small from_minus_9)
    (Applied' Floor p (greatest p) ∷ Applied' Ceil p (greatest p) ∷ plus p (greatest p) (digits 1)
    ∷ Joined' Minus p (digits 1) p (greatest p) ∷ Joined' Over p (greatest p) p (digits 1) ∷ [])
    ≡ false ∷ false ∷ false ∷ false ∷ false ∷ []
too_large p = refl

-- 10^27 times 10^27 is too large, and so is what counts parts times what counts parts
abbrev squared_count : Box (Unit {0}) Global → Term
squared_count p = Joined' Times p (PartCount 0) p (PartSum 0 0)

sums_times_sums : (p : Box (Unit {0}) Global) → is_small from_minus_9 (squared_count p) ≡ false
sums_times_sums p = refl

sum_and_sum : (p : Box (Unit {0}) Global) → is_small from_minus_9 (plus p (PartCount 0) (PartSum 0 0)) ≡ true
sum_and_sum p = refl

-- a constraint over two tuples: two rules of one restriction at different slots; at one slot they are one too many
abbrev at_lids : ℕ → ℕ → Plan
at_lids first second = record box {
  rules =
      record (rule 0 [] Never) { slots = first ∷ [] } ∷ record (rule 0 [] Never) { slots = second ∷ [] }
      ∷ last 0 ∷ last 1 ∷ own_rule 0 (Line 1) ∷ own_rule 0 (Line 2) ∷ [];
}

two_tuples : broken (at_lids 1 2) ≡ []
two_tuples = refl

one_tuple : Breaks (codes "rules_once") (at_lids 2 2)
one_tuple = refl

-- a cell of 1.5 where the list has no decimals
abbrev length_table : ℕ → Plan
length_table millionths = record box {
  tables = record { name = codes "T"; columns = plain 0 ∷ []; rows = (number (pos millionths) ∷ []) ∷ [] } ∷ [];
}

whole_cell : broken (length_table 2_000_000) ≡ []
whole_cell = refl

half_cell : Breaks (codes "cells") (length_table 1_500_000)
half_cell = refl

-- SPECIFIED under NOT, wherever in a condition of a net
abbrev anything : Condition
anything = Compared Equal (Read 0) (Literal (Text 1))

abbrev unspecified : Box (Unit {0}) Global → Condition
unspecified p = Not' p (Specified 0)

right_of_and : (p : Box (Unit {0}) Global) → is_for_nets (And' p anything p (unspecified p)) ≡ false
right_of_and p = refl

left_of_and : (p : Box (Unit {0}) Global) → is_for_nets (And' p (unspecified p) p anything) ≡ false
left_of_and p = refl

right_of_or : (p : Box (Unit {0}) Global) → is_for_nets (Or' p anything p (unspecified p)) ≡ false
right_of_or p = refl

left_of_or : (p : Box (Unit {0}) Global) → is_for_nets (Or' p (unspecified p) p anything) ≡ false
left_of_or p = refl

right_under_not : (p : Box (Unit {0}) Global) → is_for_nets (Not' p (And' p anything p (Specified 0))) ≡ false
right_under_not p = refl

or_under_not : (p : Box (Unit {0}) Global) → is_for_nets (Not' p (Or' p (Specified 0) p anything)) ≡ false
or_under_not p = refl

under_two : (p : Box (Unit {0}) Global) → is_for_nets (Not' p (unspecified p)) ≡ false
under_two p = refl

left_passes : (p : Box (Unit {0}) Global) → is_for_nets (And' p anything p (unspecified p)) ≢ true
left_passes p e = cc

-- a sum over parts inside a function and in a join, and in a part of a condition
sum_inside : (p : Box (Unit {0}) Global)
    → map has_part_sum
    (Literal (whole 1) ∷ Read 0 ∷ Applied' Abs p (PartCount 0) ∷ plus p (PartSum 0 0) (Read 0)
    ∷ plus p (Read 0) (PartSum 0 0) ∷ [])
    ≡ false ∷ false ∷ true ∷ true ∷ true ∷ []
sum_inside p = refl

abbrev many : Condition
many = Compared Greater (Literal (whole 3)) (PartCount 0)

sum_asked : (p : Box (Unit {0}) Global)
    → map condition_sums
    (anything ∷ many ∷ Not' p many ∷ And' p anything p many ∷ And' p many p anything ∷ Or' p anything p many
    ∷ Or' p many p anything ∷ [])
    ≡ false ∷ true ∷ true ∷ true ∷ true ∷ true ∷ true ∷ []
sum_asked p = refl

-- so a quantity may have none under a function, and a constraint's condition none
summed_quantity : (p : Box (Unit {0}) Global) → Breaks (codes "no_sum_meant")
    (record whole_gear { terms = Applied' Abs p (PartCount 0) ∷ Literal (whole 2) ∷ PartSum 0 0 ∷ PartCount 0 ∷ [] })
summed_quantity p = refl

summing_rule : Breaks (codes "no_sum_asked") (let plan = whole_gear in record plan {
  conditions = Always ∷ many ∷ [];
  rules =
      rule 1 [] Never ∷ last 0 ∷ last 1 ∷ last 2 ∷ last 3 ∷ own_rule 0 (Line 1) ∷ own_rule 0 (Line 2)
      ∷ own_rule 0 (Line 3) ∷ [];
})
summing_rule = refl
