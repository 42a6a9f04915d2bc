-- What is required, hidden and violated, and what is taken into bill and routing.
use Rattle.std.proofs.Common.{◌≡◌, ℕ, Bool, true, false, List, [], ◌∷◌, map, refl}
use Rattle.std.specs.Prelude.{Option, Some, None, ◌≢◌}
use Rattle.vc_value.specs.declared.table_header.Domain.TheVariants.{Texts}
use Rattle.vc_value.specs.declared.value.Value.TheVariants.{Text}
use Rattle.vc_plan.specs.declared.atoms.Culprit.TheVariants.{Hidden, HiddenSet}
use Rattle.vc_plan.specs.declared.conditions.Condition.TheVariants.{Always, Compared}
use Rattle.vc_plan.specs.declared.conditions.Piece.{Piece}
use Rattle.vc_plan.specs.declared.conditions.Piece.TheVariants.{OneText, Stretch}
use Rattle.vc_plan.specs.declared.conditions.Relation.TheVariants.{Equal}
use Rattle.vc_plan.specs.declared.plans.Characteristic.{Characteristic}
use Rattle.vc_plan.specs.declared.plans.Guard.{Guard}
use Rattle.vc_plan.specs.declared.plans.Named.{Named}
use Rattle.vc_plan.specs.declared.plans.Named.TheVariants.{Var, Set}
use Rattle.vc_plan.specs.declared.plans.Operation.{Operation}
use Rattle.vc_plan.specs.declared.plans.Plan.{Plan}
use Rattle.vc_plan.specs.declared.plans.Requirement.{Requirement}
use Rattle.vc_plan.specs.declared.plans.Selection.{Selection}
use Rattle.vc_plan.specs.declared.shown.Status.TheVariants.{Complete, Contradiction, Unfinished}
use Rattle.vc_plan.specs.declared.terms.Term.TheVariants.{Literal, Read}
use Rattle.vc_plan.specs.Evaluate.{Users}
use Rattle.vc_plan.specs.Seen.{seen_of}
use Rattle.vc_plan.specs.Showing.{is_hidden, is_value_hidden}
use Rattle.vc_plan.specs.Shown.{bill, reading_of, routing, status}
use Rattle.vc_plan.specs.declared.atoms.Atom.TheVariants.{Here, Is}
use Rattle.vc_plan.proofs.PlanRows.Models.{from_to}
use Rattle.vc_plan.proofs.StageRows.Machines.{machine}
use Rattle.vc_plan.proofs.StageRows.StageModels.{chosen, line}

-- MACH, whose drive has POWER, and options as set 0; DRIVEN, POWER and the options may be marked as required. Condition
-- 1 is
-- that DRIVEN is Y, condition 2 that it is N, condition 3 that POWER is P1
abbrev of_list : Bool → List ℕ → Characteristic
of_list required texts = record { name = []; unit = None; required = required; list = Texts texts }

abbrev drive : Bool → Bool → Plan
drive power options = record machine {
  characteristics = of_list false (0 ∷ 1 ∷ []) ∷ of_list power (2 ∷ 3 ∷ []) ∷ of_list options (7 ∷ 8 ∷ []) ∷ [];
  domains = Texts (0 ∷ 1 ∷ []) ∷ Texts (2 ∷ 3 ∷ []) ∷ Texts (7 ∷ 8 ∷ []) ∷ [];
  sets = record { slot = 1; characteristic = 2; domain = 2 } ∷ [];
  conditions =
      Always ∷ Compared Equal (Read 0) (Literal (Text 0)) ∷ Compared Equal (Read 0) (Literal (Text 1))
      ∷ Compared Equal (Read 1) (Literal (Text 2)) ∷ [];
}

abbrev with_drive : Users
with_drive = chosen (Some (Text 0) ∷ [])

abbrev without : Users
without = chosen (Some (Text 1) ∷ [])

abbrev option : Users → Users
option users = record users { texts = (7 ∷ []) ∷ [] }

-- required is what is required of a slot that is here
absent_power : status (drive true false) without ≡ Some Complete
absent_power = refl

present_power : status (drive true false) with_drive ≡ Some Unfinished
present_power = refl

absent_asked : status (drive true false) without ≢ Some Unfinished
absent_asked e = cc

-- a set is answered by a text
absent_options : status (drive false true) without ≡ Some Complete
absent_options = refl

no_options : status (drive false true) with_drive ≡ Some Unfinished
no_options = refl

an_option : status (drive false true) (option with_drive) ≡ Some Complete
an_option = refl

no_options_complete : status (drive false true) with_drive ≢ Some Complete
no_options_complete e = cc

-- required by a selection condition, where that is True: it is unknown, False and True
abbrev requirement : Named → ℕ → Requirement
requirement at condition = record { at = at; selection = record { dependency = 0; condition = condition } }

abbrev if_p1 : Named → Plan
if_p1 at = record (drive false false) { requirements = requirement at 3 ∷ [] }

unknown_requires : status (if_p1 (Set 0)) with_drive ≡ Some Complete
unknown_requires = refl

false_requires : status (if_p1 (Set 0)) (chosen (Some (Text 0) ∷ Some (Text 3) ∷ [])) ≡ Some Complete
false_requires = refl

true_requires : status (if_p1 (Set 0)) (chosen (Some (Text 0) ∷ Some (Text 2) ∷ [])) ≡ Some Unfinished
true_requires = refl

unless_false : status (if_p1 (Set 0)) with_drive ≢ Some Unfinished
unless_false e = cc

other_named : status (if_p1 (Var 1)) (chosen (Some (Text 0) ∷ Some (Text 2) ∷ [])) ≢ Some Unfinished
other_named e = cc

-- what is hidden isn't asked for: the drive is here, and POWER is hidden where DRIVEN is Y
abbrev guard : Named → Option Piece → ℕ → ℕ → Guard
guard at value dependency condition = record { at = at; value = value; dependency = dependency; condition = condition }

abbrev guarded : Bool → Bool → List Guard → Plan
guarded power options guards = record (drive power options) { guards = guards }

hidden_unasked : status (guarded true false (guard (Var 1) None 0 2 ∷ [])) with_drive ≡ Some Complete
hidden_unasked = refl

hidden_asked : status (guarded true false (guard (Var 1) None 0 2 ∷ [])) with_drive ≢ Some Unfinished
hidden_asked e = cc

hidden_options : status (guarded false true (guard (Set 0) None 0 2 ∷ [])) with_drive ≡ Some Complete
hidden_options = refl

shown_asked : status (guarded true false (guard (Var 1) None 0 1 ∷ [])) with_drive ≡ Some Unfinished
shown_asked = refl

-- a precondition of a value hides the value alone: POWER is still asked for
value_hidden : status (guarded true false (guard (Var 1) (Some (OneText 2)) 0 2 ∷ [])) with_drive ≡ Some Unfinished
value_hidden = refl

abbrev hides : Guard → List Bool
hides g =
    let plan = guarded false false (g ∷ []) in
    let reading = reading_of plan with_drive (seen_of (Here 0 ∷ Is 0 (Text 0) ∷ Here 1 ∷ [])) in
    is_hidden plan reading (Var 1) ∷ is_value_hidden plan reading (Var 1) (OneText 2)
    ∷ is_value_hidden plan reading (Var 1) (OneText 3)
    ∷ is_value_hidden plan reading (Var 0) (OneText 2) ∷ is_hidden plan reading (Set 0) ∷ []

by_value : hides (guard (Var 1) (Some (OneText 2)) 0 2) ≡ false ∷ true ∷ false ∷ false ∷ false ∷ []
by_value = refl

by_characteristic : hides (guard (Var 1) None 0 2) ≡ true ∷ false ∷ false ∷ false ∷ false ∷ []
by_characteristic = refl

fulfilled : hides (guard (Var 1) None 0 1) ≡ false ∷ false ∷ false ∷ false ∷ false ∷ []
fulfilled = refl

-- one of an interval hides each grain of it
abbrev hides_grain : Piece → Bool
hides_grain grain =
    let plan = guarded false false (guard (Var 1) (Some (Stretch (from_to 1 5))) 0 2 ∷ []) in
    is_value_hidden plan (reading_of plan with_drive (seen_of (Here 0 ∷ Is 0 (Text 0) ∷ Here 1 ∷ []))) (Var 1) grain

of_interval : map hides_grain (Stretch (from_to 1 2) ∷ Stretch (from_to 3 5) ∷ Stretch (from_to 6 9) ∷ [])
    ≡ true ∷ true ∷ false ∷ []
of_interval = refl

-- violated is what is violated at a slot that is here: the option that the user chose sleeps
sleeping_option : status (guarded false false (guard (Set 0) None 0 1 ∷ [])) (option without) ≡ Some Complete
sleeping_option = refl

sleeping_violates : status (guarded false false (guard (Set 0) None 0 1 ∷ [])) (option without) ≢ Some
    (Contradiction (HiddenSet 0 0))
sleeping_violates e = cc

awake_option : status (guarded false false (guard (Set 0) None 0 2 ∷ [])) (option with_drive)
    ≡ Some (Contradiction (HiddenSet 0 0))
awake_option = refl

-- of a set's text: the one that is chosen, and not another
chosen_text : status (guarded false false (guard (Set 0) (Some (OneText 7)) 0 2 ∷ [])) (option with_drive)
    ≡ Some (Contradiction (HiddenSet 0 0))
chosen_text = refl

other_text : status (guarded false false (guard (Set 0) (Some (OneText 8)) 0 2 ∷ [])) (option with_drive)
    ≡ Some Complete
other_text = refl

-- of two the first is named, and it comes before what is asked for
abbrev twice : Plan
twice = guarded false true
    (guard (Var 1) (Some (OneText 3)) 4 2 ∷ guard (Var 1) None 5 2 ∷ guard (Var 1) (Some (OneText 2)) 6 2 ∷ [])

first_violated : status twice (chosen (Some (Text 0) ∷ Some (Text 2) ∷ [])) ≡ Some (Contradiction (Hidden 5 1))
first_violated = refl

last_violated : status twice (chosen (Some (Text 0) ∷ Some (Text 2) ∷ [])) ≢ Some (Contradiction (Hidden 6 1))
last_violated e = cc

first_of_all : status twice (chosen (Some (Text 0) ∷ Some (Text 3) ∷ [])) ≡ Some (Contradiction (Hidden 4 1))
first_of_all = refl

-- the routing has the operations of slots that are here, and that are selected: one condition of several suffices
abbrev operation : ℕ → List Selection → Operation
operation slot selections = record { slot = slot; number = 10; name = []; unit = []; time = 0; selections = selections }

abbrev selected_by : ℕ → Selection
selected_by condition = record { dependency = 0; condition = condition }

abbrev operating : Plan
operating = record (drive false false) {
  operations =
      operation 0 [] ∷ operation 0 (selected_by 2 ∷ selected_by 1 ∷ []) ∷ operation 1 (selected_by 3 ∷ [])
      ∷ operation 1 [] ∷ [];
}

abbrev operations_with : Users → List ℕ
operations_with users = map (λ row. row.operation) (routing operating users)

drive's_operations : operations_with with_drive ≡ 0 ∷ 1 ∷ 3 ∷ []
drive's_operations = refl

root's_operations : operations_with without ≡ 0 ∷ 1 ∷ []
root's_operations = refl

absent_operations : operations_with without ≢ 0 ∷ 1 ∷ 3 ∷ []
absent_operations e = cc

unknown_operations : operations_with (chosen []) ≡ 0 ∷ []
unknown_operations = refl

-- and so has the bill the lines
abbrev lines_with : Users → List ℕ
lines_with users = map (λ row. row.line) (bill (record (drive false false) {
  lines =
      line 0 0 [] ∷ line 0 0 (selected_by 2 ∷ selected_by 1 ∷ []) ∷ line 0 0 (selected_by 3 ∷ selected_by 2 ∷ [])
      ∷ line 1 0 (selected_by 1 ∷ []) ∷ [];
}) users)

one_suffices : lines_with with_drive ≡ 0 ∷ 3 ∷ 1 ∷ []
one_suffices = refl

all_wanted : lines_with with_drive ≢ 0 ∷ 3 ∷ []
all_wanted e = cc

the_others : lines_with without ≡ 1 ∷ 2 ∷ []
the_others = refl

unknown_suffices : lines_with (chosen []) ≡ []
unknown_suffices = refl
