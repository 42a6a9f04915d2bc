-- Worked rows of edits, by computing: a box with two lids, each with a length from 1 to 9 and two options.
use Rattle.std.proofs.Common.{◌≡◌, ℕ, pos, true, false, [], ◌∷◌, refl}
use Rattle.std.specs.Prelude.{None, Some}
use Rattle.vc_value.specs.declared.value.Value.{Value}
use Rattle.vc_value.specs.declared.value.Value.TheVariants.{Text, Num}
use Rattle.vc_plan.specs.declared.plans.Named.{Named}
use Rattle.vc_plan.specs.declared.plans.Named.TheVariants.{Set, Var}
use Rattle.vc_plan.specs.declared.plans.Plan.{Plan}
use Rattle.vc_plan.proofs.PlanRows.Models.{whole}
use Rattle.vc_plan.proofs.PlanRows.SmallModels.{box}
use Rattle.vc_plan_users.specs.Choosing.{Chosen, none_chosen, not_held, users_of}
use Rattle.vc_plan_users.specs.declared.users.SetText.{SetText}
use Rattle.vc_session.specs.Edits.{given, given_alone, has_choice, has_chosen, may_be_given, taken, taken_value}
use Rattle.vc_session.specs.Sessions.{Opened, is_away, set_fault}
use Rattle.vc_session.specs.declared.session.SetFault.TheVariants as faults

abbrev held : ℕ → SetText
held text = record { text = text; held = true }

-- the first lid has a length and the first option, the second both options
abbrev before : Chosen
before = record {
  values = Some (whole 5) ∷ None ∷ [];
  sets = (held 0 ∷ not_held 1 ∷ []) ∷ (held 0 ∷ held 1 ∷ []) ∷ [];
}

nothing_at_first : none_chosen box ≡ record {
  values = None ∷ None ∷ [];
  sets = (not_held 0 ∷ not_held 1 ∷ []) ∷ (not_held 0 ∷ not_held 1 ∷ []) ∷ [];
}
nothing_at_first = refl

as_evaluated : users_of before ≡ record { values = before.values; texts = (0 ∷ []) ∷ (0 ∷ 1 ∷ []) ∷ [] }
as_evaluated = refl

-- which values may be given
a_listed_length : may_be_given box (Var 0) (whole 9) ≡ true
a_listed_length = refl

too_long : may_be_given box (Var 0) (whole 10) ≡ false
too_long = refl

a_decimal_too_many : may_be_given box (Var 0) (Num (record { millionths = pos 2_500_000 })) ≡ false
a_decimal_too_many = refl

no_length : may_be_given box (Var 0) (Text 0) ≡ false
no_length = refl

an_option : may_be_given box (Set 1) (Text 1) ≡ true
an_option = refl

no_option : may_be_given box (Set 1) (Text 2) ≡ false
no_option = refl

a_number_for_an_option : may_be_given box (Set 1) (whole 1) ≡ false
a_number_for_an_option = refl

no_such_set : may_be_given box (Set 2) (Text 0) ≡ false
no_such_set = refl

-- a value for another, an option beside another, and an option alone
another_length : given before (Var 0) (whole 6) ≡ record { values = Some (whole 6) ∷ None ∷ []; sets = before.sets }
another_length = refl

the_other_length : given before (Var 1) (whole 6)
    ≡ record { values = Some (whole 5) ∷ Some (whole 6) ∷ []; sets = before.sets }
the_other_length = refl

beside : given before (Set 0) (Text 1) ≡ record {
  values = before.values;
  sets = (held 0 ∷ held 1 ∷ []) ∷ (held 0 ∷ held 1 ∷ []) ∷ [];
}
beside = refl

alone : given_alone before (Set 0) (Text 1) ≡ record {
  values = before.values;
  sets = (not_held 0 ∷ held 1 ∷ []) ∷ (held 0 ∷ held 1 ∷ []) ∷ [];
}
alone = refl

held_already : given before (Set 1) (Text 1) ≡ before
held_already = refl

not_in_the_list : given before (Set 0) (Text 7) ≡ before
not_in_the_list = refl

-- all that was chosen there, or one of it
no_length_again : taken before (Var 0) ≡ record { values = None ∷ None ∷ []; sets = before.sets }
no_length_again = refl

no_options_again : taken before (Set 1) ≡ record {
  values = before.values;
  sets = (held 0 ∷ not_held 1 ∷ []) ∷ (not_held 0 ∷ not_held 1 ∷ []) ∷ [];
}
no_options_again = refl

one_option_less : taken_value before (Set 1) (Text 0) ≡ record {
  values = before.values;
  sets = (held 0 ∷ not_held 1 ∷ []) ∷ (not_held 0 ∷ held 1 ∷ []) ∷ [];
}
one_option_less = refl

the_length_less : taken_value before (Var 0) (whole 5) ≡ taken before (Var 0)
the_length_less = refl

-- whether there is something to take back
some_length : has_choice before (Var 0) ≡ true
some_length = refl

no_second_length : has_choice before (Var 1) ≡ false
no_second_length = refl

some_option : has_choice before (Set 0) ≡ true
some_option = refl

no_option_left : has_choice (taken before (Set 0)) (Set 0) ≡ false
no_option_left = refl

no_third_set : has_choice before (Set 2) ≡ false
no_third_set = refl

this_length : has_chosen before (Var 0) (whole 5) ≡ true
this_length = refl

not_that_length : has_chosen before (Var 0) (whole 6) ≡ false
not_that_length = refl

this_option : has_chosen before (Set 0) (Text 0) ≡ true
this_option = refl

not_that_option : has_chosen before (Set 0) (Text 1) ≡ false
not_that_option = refl

no_number_is_held : has_chosen before (Set 0) (whole 0) ≡ false
no_number_is_held = refl

-- while a stage is broken, all may be given that is listed
all_here_where_broken : (plan : Plan) (session : Opened) (stage : ℕ) (named : Named)
    → session.stages.broken ≡ Some stage
    → is_away plan session named ≡ false
all_here_where_broken plan session stage named e = rw e

-- what isn't listed is refused as such, here or not
listed_first : (plan : Plan) (session : Opened) (named : Named) (a : Value) → may_be_given plan named a ≡ false
    → set_fault plan session named a ≡ Some faults.NotInList
listed_first plan session named a e = rw e
