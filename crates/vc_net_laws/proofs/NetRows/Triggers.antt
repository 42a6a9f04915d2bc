-- What rules wait for.
use Rattle.std.proofs.Common.{◌≡◌, refl, [], ◌∷◌, true, false}
use Rattle.std.specs.Prelude.{None, Some, ◌≢◌, Box, Option}
use Rattle.std.specs.declared.alloc.Global.{Global}
use Rattle.vc_value.specs.declared.value.Value.TheVariants.{Text}
use Rattle.vc_plan.specs.declared.atoms.Atom.TheVariants.{Out, Is}
use Rattle.vc_plan.specs.declared.conditions.Condition.{Condition}
use Rattle.vc_plan.specs.declared.conditions.Condition.TheVariants.{Always, Compared, Specified, Not', And', Or'}
use Rattle.vc_plan.specs.declared.conditions.Relation.TheVariants.{Equal, Unequal}
use Rattle.vc_plan.specs.declared.plans.Plan.{Plan}
use Rattle.vc_plan.specs.declared.rules.Kind.TheVariants.{Never}
use Rattle.vc_plan.specs.declared.terms.Term.TheVariants.{Literal, Read}
use Rattle.vc_plan.specs.Gives.{by_entry, by_rule, by_user}
use Rattle.vc_plan.proofs.PlanRows.Models.{empty, pump, rule, whole}
use Rattle.vc_net_laws.specs.Triggers.{trigger_by, trigger_of}
use Rattle.vc_net_laws.specs.Waking.{is_woken}
use Rattle.vc_net_laws.specs.declared.triggers.Trigger.{Trigger}

-- the trigger of a rule with this condition, the second of its plan
abbrev waits_for : Condition → Option Trigger
waits_for c = trigger_of (record empty { conditions = Always ∷ c ∷ [] }) (rule 1 [] Never)

-- variable 3 has the text 7; and variable 4 the number 2
abbrev is_seven : Condition
is_seven = Compared Equal (Read 3) (Literal (Text 7))

abbrev is_two : Condition
is_two = Compared Equal (Read 4) (Literal (whole 2))

left_side : waits_for is_seven ≡ Some (record { var = 3; value = Text 7 })
left_side = refl

right_side : waits_for (Compared Equal (Literal (Text 7)) (Read 3)) ≡ Some (record { var = 3; value = Text 7 })
right_side = refl

number : waits_for is_two ≡ Some (record { var = 4; value = whole 2 })
number = refl

-- nothing is to be waited for without a condition, where values are to differ, of two variables or two literals
always : waits_for Always ≡ None
always = refl

unequal : waits_for (Compared Unequal (Read 3) (Literal (Text 7))) ≡ None
unequal = refl

unequal_waits : waits_for (Compared Unequal (Read 3) (Literal (Text 7))) ≢ Some (record { var = 3; value = Text 7 })
unequal_waits e = cc

variables : waits_for (Compared Equal (Read 3) (Read 4)) ≡ None
variables = refl

literals : waits_for (Compared Equal (Literal (Text 3)) (Literal (Text 7))) ≡ None
literals = refl

any_value : waits_for (Specified 3) ≡ None
any_value = refl

-- the first part by AND, also where another comes before it or further in
two_parts : (p : Box (Unit {0}) Global)
    → waits_for (And' p is_two p is_seven) ≡ Some (record { var = 4; value = whole 2 })
two_parts p = refl

second_part : (p : Box (Unit {0}) Global)
    → waits_for (And' p (Specified 4) p is_seven) ≡ Some (record { var = 3; value = Text 7 })
second_part p = refl

inner_part : (p : Box (Unit {0}) Global)
    → waits_for (And' p (And' p (Specified 4) p is_seven) p is_two) ≡ Some (record { var = 3; value = Text 7 })
inner_part p = refl

-- none under OR or NOT, but beside it
under_or : (p : Box (Unit {0}) Global) → waits_for (Or' p is_seven p is_two) ≡ None
under_or p = refl

or_waits : (p : Box (Unit {0}) Global)
    → waits_for (Or' p is_seven p is_seven) ≢ Some (record { var = 3; value = Text 7 })
or_waits p e = cc

under_not : (p : Box (Unit {0}) Global) → waits_for (Not' p is_seven) ≡ None
under_not p = refl

not_waits : (p : Box (Unit {0}) Global) → waits_for (Not' p is_seven) ≢ Some (record { var = 3; value = Text 7 })
not_waits p e = cc

beside_or : (p : Box (Unit {0}) Global)
    → waits_for (And' p (Or' p is_two p is_two) p is_seven) ≡ Some (record { var = 3; value = Text 7 })
beside_or p = refl

-- PUMP with a rule that says that a large one, 2, must not have the motor 4
abbrev pub triggered : Plan
triggered = record pump {
  conditions = Always ∷ Compared Equal (Read 0) (Literal (Text 2)) ∷ [];
  rules = rule 0 [] Never ∷ rule 1 [] Never ∷ [];
}

by_the_rule : trigger_by triggered (by_rule 1) ≡ Some (record { var = 0; value = Text 2 })
by_the_rule = refl

by_no_source : (trigger_by triggered (by_user 0) ≡ None) × (trigger_by triggered (by_entry 0) ≡ None)
by_no_source = (refl, refl)

-- it is woken by that value, not by another, nor by what is out; who has none is woken by what it touches alone
by_its_value : is_woken triggered [] (Is 0 (Text 2)) (by_rule 1) ≡ true
by_its_value = refl

by_another : is_woken triggered [] (Is 0 (Text 1)) (by_rule 1) ≡ false
by_another = refl

by_what_is_out : is_woken triggered [] (Out 0 1) (by_rule 1) ≡ false
by_what_is_out = refl

beside_its_value : is_woken triggered (Is 0 (Text 2) ∷ []) (Out 0 1) (by_rule 1) ≡ true
beside_its_value = refl

by_what_it_leaves : is_woken triggered (Is 0 (Text 2) ∷ []) (Out 1 1) (by_rule 1) ≡ false
by_what_it_leaves = refl

table_by_size : is_woken pump [] (Out 0 1) (by_rule 0) ≡ true
table_by_size = refl

table_by_flow : is_woken pump [] (Out 2 0) (by_rule 0) ≡ false
table_by_flow = refl

-- a source is woken by its slot and its own variable
source_by_variable : is_woken pump [] (Out 1 1) (by_user 1) ≡ true
source_by_variable = refl

source_by_another : is_woken pump [] (Out 0 1) (by_entry 1) ≡ false
source_by_another = refl
