-- Rules told at a glance, computed: who rests, and who may give a text. Variable 0 has the texts 5, 6 and 7 and isn't
-- restrictable, variable 1 has them too and is; variable 2 has one text alone.
use Rattle.std.proofs.Common.{◌≡◌, ℕ, pos, Bool, true, false, ◌==◌, List, [], ◌∷◌, refl}
use Rattle.std.specs.Prelude.{None, Some}
use Rattle.vc_value.specs.declared.table_header.Domain.TheVariants.{Texts}
use Rattle.vc_value.specs.declared.value.Value.TheVariants.{Text}
use Rattle.vc_plan.specs.declared.atoms.Atom.{Atom}
use Rattle.vc_plan.specs.declared.atoms.Atom.TheVariants.{Here, Out, Is}
use Rattle.vc_plan.specs.declared.conditions.Piece.TheVariants.{OneText}
use Rattle.vc_plan.specs.declared.conditions.Relation.TheVariants.{Equal, Unequal}
use Rattle.vc_plan.specs.declared.plans.Plan.{Plan}
use Rattle.vc_plan.specs.declared.rules.Kind.{Kind}
use Rattle.vc_plan.specs.declared.rules.Kind.TheVariants.{Among, Never, Last, Line}
use Rattle.vc_plan.specs.declared.rules.Restriction.TheVariants.{Against, OneOf}
use Rattle.vc_plan.specs.Seen.{seen_of}
use Rattle.vc_plan.proofs.PlanRows.Models.{empty, root, open_var, fixed_var, number, rule}
use Rattle.vc_rule.specs.Giving.{is_free_for, is_there}
use Rattle.vc_rule.specs.Resting.{rests}

abbrev three_texts : List ℕ
three_texts = 5 ∷ 6 ∷ 7 ∷ []

abbrev plan : Plan
plan = record empty {
  domains = Texts three_texts ∷ Texts three_texts ∷ Texts (5 ∷ []) ∷ [];
  slots = root ∷ [];
  vars = fixed_var 0 ∷ open_var 1 ∷ fixed_var 2 ∷ [];
}

abbrev rests_at : List Atom → Kind → Bool
rests_at set kind = rests plan (seen_of (Here 0 ∷ set)) kind

-- a rule that gives a text rests where that is the variable's value: not before, and not where it is another
gave_it : rests_at (Is 0 (Text 6) ∷ []) (Among 0 (Against Equal (Text 6))) ≡ true
gave_it = refl

has_no_value : rests_at [] (Among 0 (Against Equal (Text 6))) ≡ false
has_no_value = refl

has_another : rests_at (Is 0 (Text 7) ∷ []) (Among 0 (Against Equal (Text 6))) ≡ false
has_another = refl

another_has_it : rests_at (Is 2 (Text 6) ∷ []) (Among 0 (Against Equal (Text 6))) ≡ false
another_has_it = refl

-- it doesn't where the variable is restrictable, as the other grains are to go; nor where it isn't one text that is
-- asked for by itself
narrows : rests_at (Is 1 (Text 6) ∷ []) (Among 1 (Against Equal (Text 6))) ≡ false
narrows = refl

asks_for_another : rests_at (Is 0 (Text 6) ∷ []) (Among 0 (Against Unequal (Text 6))) ≡ false
asks_for_another = refl

asks_for_some : rests_at (Is 0 (Text 6) ∷ []) (Among 0 (OneOf (OneText 6 ∷ []))) ≡ false
asks_for_some = refl

asks_for_a_number : rests_at (Is 0 (number (pos 6)) ∷ []) (Among 0 (Against Equal (number (pos 6)))) ≡ false
asks_for_a_number = refl

-- the rule of a last grain rests where the first two are left; where one of them is out it is asked, though two others
-- may be left
two_are_left : rests_at (Out 1 2 ∷ []) (Last 1) ≡ true
two_are_left = refl

the_first_is_out : rests_at (Out 1 0 ∷ []) (Last 1) ≡ false
the_first_is_out = refl

the_second_is_out : rests_at (Out 1 1 ∷ []) (Last 1) ≡ false
the_second_is_out = refl

-- one grain alone is the last from the start
only_one : rests_at [] (Last 2) ≡ false
only_one = refl

-- whoever forbids or takes lines is asked
never_rests : rests_at [] Never ≡ false
never_rests = refl

lines_never_rest : rests_at [] (Line 0) ≡ false
lines_never_rest = refl

-- a rule may give its variable a text where that is inferred, isn't restrictable and has no value
abbrev is_free_at : List Atom → List ℕ → ℕ → Bool
is_free_at set inferred v = is_free_for plan (seen_of set) (rule 0 inferred Never) v

is_free : is_free_at (Is 2 (Text 5) ∷ Out 0 1 ∷ []) (0 ∷ []) 0 ≡ true
is_free = refl

is_set : is_free_at (Is 0 (Text 5) ∷ []) (0 ∷ []) 0 ≡ false
is_set = refl

is_not_inferred : is_free_at [] (2 ∷ []) 0 ≡ false
is_not_inferred = refl

is_open : is_free_at [] (0 ∷ 1 ∷ []) 1 ≡ false
is_open = refl

-- the text's grain is there, and isn't out
grain_is_there : is_there (λ g. g == 0) (Some 1) ≡ true
grain_is_there = refl

grain_is_out : is_there (λ g. g == 0) (Some 0) ≡ false
grain_is_out = refl

no_grain : is_there (λ g. g == 0) None ≡ false
no_grain = refl
