-- The tally of the first family, by computing, and the likeliest slips beside it.
use Rattle.std.proofs.Common.{◌≡◌, ℕ, [], ◌∷◌, refl}
use Rattle.std.specs.Prelude.{None, Some, codes}
use Rattle.std.specs.Fmt.{digits}
use Rattle.vc_value.specs.declared.table_header.Domain.TheVariants.{Texts}
use Rattle.vc_value.specs.declared.value.Value.TheVariants.{Text}
use Rattle.vc_plan.specs.declared.conditions.Condition.{Condition}
use Rattle.vc_plan.specs.declared.conditions.Condition.TheVariants.{Always, Compared}
use Rattle.vc_plan.specs.declared.conditions.Relation.TheVariants.{Equal}
use Rattle.vc_plan.specs.declared.plans.Plan.{Plan}
use Rattle.vc_plan.specs.declared.rules.Kind.TheVariants.{Among}
use Rattle.vc_plan.specs.declared.rules.Restriction.TheVariants.{Against}
use Rattle.vc_plan.specs.declared.rules.Rule.{Rule}
use Rattle.vc_plan.specs.declared.terms.Term.TheVariants.{Literal, Read}
use Rattle.vc_plan.proofs.PlanRows.Models.{empty, root, fixed_var, last, of, rule}
use Rattle.vc_plan.proofs.PlanRows.WholeModels.{listed, object}
use Rattle.vc_app_gen.specs.Counts.{families_asked}
use Rattle.vc_app_gen.specs.Lines.{tally_line}
use Rattle.vc_app_gen.specs.Tallies.{digit_behind, first_variable, no_tally, tally_at, tally_of}

-- a condition and a rule of the constraint
abbrev where_is : ℕ → ℕ → Condition
where_is v t = Compared Equal (Read v) (Literal (Text t))

abbrev gives : ℕ → ℕ → ℕ → ℕ → Rule
gives number condition v t = of 0 number (rule condition (0 ∷ 1 ∷ 2 ∷ 3 ∷ []) (Among v (Against Equal (Text t))))

abbrev first_family : Plan
first_family = record empty {
  name = codes "FAM1";
  texts = codes "V0" ∷ codes "V1" ∷ codes "V2" ∷ [];
  dependencies = codes "NEXT" ∷ [];
  characteristics =
      listed (codes "A1") (Texts (0 ∷ 1 ∷ 2 ∷ [])) ∷ listed (codes "A2") (Texts (0 ∷ 1 ∷ 2 ∷ []))
      ∷ listed (codes "A3") (Texts (0 ∷ 1 ∷ 2 ∷ [])) ∷ listed (codes "A4") (Texts (0 ∷ 1 ∷ 2 ∷ [])) ∷ [];
  objects = object (codes "FAM1") (0 ∷ 1 ∷ 2 ∷ 3 ∷ []) ∷ [];
  domains = Texts (0 ∷ 1 ∷ 2 ∷ []) ∷ Texts (0 ∷ 1 ∷ 2 ∷ []) ∷ Texts (0 ∷ 1 ∷ 2 ∷ []) ∷ Texts (0 ∷ 1 ∷ 2 ∷ []) ∷ [];
  slots = root ∷ [];
  vars = fixed_var 0 ∷ fixed_var 1 ∷ fixed_var 2 ∷ fixed_var 3 ∷ [];
  conditions =
      Always ∷ where_is 0 0 ∷ where_is 0 1 ∷ where_is 0 2 ∷ where_is 1 0 ∷ where_is 1 1 ∷ where_is 1 2
      ∷ where_is 2 0 ∷ where_is 2 1 ∷ where_is 2 2 ∷ [];
  rules =
      gives 1 1 1 1 ∷ gives 2 2 1 2 ∷ gives 3 3 1 0 ∷ gives 4 4 2 2 ∷ gives 5 5 2 0 ∷ gives 6 6 2 1
      ∷ gives 7 7 3 0 ∷ gives 8 8 3 1 ∷ gives 9 9 3 2 ∷ last 0 ∷ last 1 ∷ last 2 ∷ last 3 ∷ [];
}

-- 0 1 0 0, 1 2 1 1 and 2 0 2 2
whole : tally_of first_family 3 ≡ record { count = 12; sum = 12 }
unfolding digits
whole = refl

by_the_second : tally_at first_family 0 1 ≡ record { count = 4; sum = 5 }
unfolding digits
by_the_second = refl

the_first_is_called : first_variable first_family ≡ Some 0
the_first_is_called = refl

-- a value that isn't listed tells nothing
not_listed : tally_at first_family 0 3 ≡ no_tally
unfolding digits
not_listed = refl

nothing_called_so : tally_of empty 3 ≡ no_tally
nothing_called_so = refl

-- the digit stands behind the letter
behind_the_letter : digit_behind (codes "V4") ≡ 4
behind_the_letter = refl

behind_nothing : digit_behind (codes "V") ≡ 0
behind_nothing = refl

told : tally_line 1 (record { count = 12; sum = 12 }) ≡ codes "family 1 values 12 sum 12\n"
unfolding digits
told = refl

-- from 1 to 1,000 families, without a sign and leading zeros
most : families_asked (codes "1000") ≡ Some 1_000
most = refl

too_many : families_asked (codes "1001") ≡ None
too_many = refl

none_asked : families_asked (codes "0") ≡ None
none_asked = refl

leading_zero : families_asked (codes "01") ≡ None
leading_zero = refl

sign : families_asked (codes "+1") ≡ None
sign = refl

no_word : families_asked [] ≡ None
no_word = refl
