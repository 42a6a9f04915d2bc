-- PAINT: a default, a procedure that overrides it, and a value with a precondition.
use Rattle.std.proofs.Common.{◌≡◌, pos, true, false, List, [], ◌∷◌, refl}
use Rattle.std.specs.Prelude.{Option, None, Some, ◌≢◌}
use Rattle.vc_value.specs.declared.table_header.Domain.TheVariants.{Texts}
use Rattle.vc_value.specs.declared.value.Value.{Value}
use Rattle.vc_value.specs.declared.value.Value.TheVariants.{Text}
use Rattle.vc_plan.specs.declared.atoms.Atom.TheVariants.{Here, Is}
use Rattle.vc_plan.specs.declared.atoms.Culprit.TheVariants.{Hidden, HiddenSet}
use Rattle.vc_plan.specs.declared.atoms.Mark.TheVariants.{Held}
use Rattle.vc_plan.specs.declared.conditions.Condition.TheVariants.{Always, Compared, Filled}
use Rattle.vc_plan.specs.declared.conditions.Piece.TheVariants.{OneText}
use Rattle.vc_plan.specs.declared.conditions.Relation.TheVariants.{Equal}
use Rattle.vc_plan.specs.declared.plans.Named.TheVariants.{Var, Set}
use Rattle.vc_plan.specs.declared.plans.Plan.{Plan}
use Rattle.vc_plan.specs.declared.procedures.Action.TheVariants.{Assign, SetDefault, DeleteDefault}
use Rattle.vc_plan.specs.declared.procedures.Procedure.{Procedure}
use Rattle.vc_plan.specs.declared.procedures.Trigger.TheVariants.{ValueIn}
use Rattle.vc_plan.specs.declared.shown.Status.TheVariants.{Complete, Contradiction}
use Rattle.vc_plan.specs.declared.terms.Term.TheVariants.{Literal, Read}
use Rattle.vc_plan.specs.Evaluate.{Users}
use Rattle.vc_plan.specs.Shown.{bill, status}
use Rattle.vc_plan.proofs.PlanRows.Models.{empty, root, fixed_var, last, whole}
use Rattle.vc_plan.proofs.StageRows.StageModels.{always, breaks_at, chosen, ends_at, entry_for, line, says}

-- the texts are RED 0, BLUE 1, GREEN 2, H 3, N 4, LUX 5, STD 6, and A, B, C; dependency 0 is PRE_LUX
abbrev pub with : List Procedure → Plan
with procedures = record empty {
  domains = Texts (0 ∷ 1 ∷ 2 ∷ []) ∷ Texts (3 ∷ 4 ∷ []) ∷ Texts (5 ∷ 6 ∷ []) ∷ Texts (7 ∷ 8 ∷ 9 ∷ []) ∷ [];
  slots = root ∷ [];
  vars = fixed_var 0 ∷ fixed_var 1 ∷ fixed_var 2 ∷ [];
  sets = record { slot = 0; characteristic = 3; domain = 3 } ∷ [];
  conditions = Always ∷ Compared Equal (Read 1) (Literal (Text 4)) ∷ Compared Equal (Read 1) (Literal (Text 3))
      ∷ Filled 0 ∷ [];
  terms = Literal (Text 0) ∷ Literal (Text 2) ∷ Literal (whole 1) ∷ Literal (Text 9) ∷ [];
  rules = last 0 ∷ last 1 ∷ last 2 ∷ [];
  procedures = procedures;
  lines = line 0 2 (record { dependency = 3; condition = 1 } ∷ []) ∷ [];
  guards = record { at = Var 2; value = Some (OneText 5); dependency = 0; condition = 1 } ∷ [];
}

abbrev pub paint : Plan
paint = with (always 0 (says (SetDefault 0 0) 0 ∷ []) ∷ always 0 (says (Assign 0 1) 2 ∷ []) ∷ [])

abbrev color : Option Value → Users
color a = chosen (a ∷ [])

abbrev mode : Option Value → Users
mode a = chosen (None ∷ a ∷ [])

-- red by default
start : ends_at paint (color None) (Here 0 ∷ Is 0 (Text 0) ∷ []) ≡ true
start = refl

start_entry : entry_for paint (color None) 0
    ≡ Some (record { mark = Held (Text 0); hard = false; procedure = 0; statement = 0 })
start_entry = refl

-- the user's color takes the default's place: none is entered where the color is known
blue : ends_at paint (color (Some (Text 1))) (Here 0 ∷ Is 0 (Text 1) ∷ []) ≡ true
blue = refl

blue_entry : entry_for paint (color (Some (Text 1))) 0 ≡ None
blue_entry = refl

blue_breaks : breaks_at paint (color (Some (Text 1))) ≢ Some 1
blue_breaks e = cc

-- green, hard, over the default of the same stage
mode_h : ends_at paint (mode (Some (Text 3))) (Here 0 ∷ Is 1 (Text 3) ∷ Is 0 (Text 2) ∷ []) ≡ true
mode_h = refl

mode_h_entry : entry_for paint (mode (Some (Text 3))) 0
    ≡ Some (record { mark = Held (Text 2); hard = true; procedure = 1; statement = 0 })
mode_h_entry = refl

stays_red : ends_at paint (mode (Some (Text 3))) (Here 0 ∷ Is 1 (Text 3) ∷ Is 0 (Text 0) ∷ []) ≢ true
stays_red e = cc

-- blue by the user and green by the procedure don't go together
both : breaks_at paint (chosen (Some (Text 1) ∷ Some (Text 3) ∷ [])) ≡ Some 1
both = refl

-- stage 0 alone has the user's values
at_once : breaks_at paint (chosen (Some (Text 1) ∷ Some (Text 3) ∷ [])) ≢ Some 0
at_once e = cc

-- LUX wants MODE N: as long as that is unknown it is fulfilled, where it is False it is violated
lux : status paint (chosen (None ∷ None ∷ Some (Text 5) ∷ [])) ≡ Some Complete
lux = refl

lux_with_h : status paint (chosen (None ∷ Some (Text 3) ∷ Some (Text 5) ∷ [])) ≡ Some (Contradiction (Hidden 0 2))
lux_with_h = refl

std_with_h : status paint (chosen (None ∷ Some (Text 3) ∷ Some (Text 6) ∷ [])) ≡ Some Complete
std_with_h = refl

unknown_violates : status paint (chosen (None ∷ None ∷ Some (Text 5) ∷ [])) ≢ Some (Contradiction (Hidden 0 2))
unknown_violates e = cc

-- the stripe is taken where its condition is True, and not where it is unknown
no_stripe : bill paint (color None) ≡ []
no_stripe = refl

stripe : bill paint (mode (Some (Text 4)))
    ≡ record { level = 1; slot = 0; line = 0; quantity = Some (record { millionths = pos 1_000_000 }) } ∷ []
stripe = refl

-- a hard value that isn't in the list stands outside, and breaks the stage
abbrev outside : Plan
outside = with (always 0 (says (Assign 0 3) 0 ∷ []) ∷ [])

outside_breaks : breaks_at outside (color None) ≡ Some 1
outside_breaks = refl

-- a default that isn't in the list isn't entered
default_outside : breaks_at (with (always 0 (says (SetDefault 0 3) 0 ∷ []) ∷ [])) (color None) ≡ None
default_outside = refl

-- a default is deleted by its value, and stays with another
deleted : entry_for (with (always 0 (says (SetDefault 0 0) 0 ∷ says (DeleteDefault 0 0) 0 ∷ []) ∷ [])) (color None) 0
    ≡ None
deleted = refl

kept : ends_at (with (always 0 (says (SetDefault 0 0) 0 ∷ says (DeleteDefault 0 1) 0 ∷ []) ∷ [])) (color None)
    (Here 0 ∷ Is 0 (Text 0) ∷ []) ≡ true
kept = refl

hard_stays : entry_for (with (always 0 (says (Assign 0 0) 0 ∷ says (DeleteDefault 0 0) 0 ∷ []) ∷ [])) (color None) 0 ≢
    None
hard_stays e = cc

-- a default doesn't take the place of a hard entry
over_hard : ends_at (with (always 0 (says (Assign 0 1) 0 ∷ says (SetDefault 0 0) 0 ∷ []) ∷ [])) (color None)
    (Here 0 ∷ Is 0 (Text 2) ∷ []) ≡ true
over_hard = refl

-- a value's procedure runs by what stands when its turn comes
abbrev by_value : Plan
by_value = with (always 0 (says (Assign 0 0) 0 ∷ [])
    ∷ record { slot = 0; dependency = 0; trigger = ValueIn 0 (OneText 0); statements = says (Assign 1 3) 0 ∷ [] } ∷ [])

runs_at_once : breaks_at by_value (color None) ≡ Some 1
runs_at_once = refl

-- an empty set isn't filled
nothing_chosen : status
    (record paint { guards = record { at = Set 0; value = None; dependency = 0; condition = 1 } ∷ [] })
    (mode (Some (Text 3))) ≡ Some Complete
nothing_chosen = refl

-- a text chosen at a characteristic that is hidden
text_chosen : status (record paint { guards = record { at = Set 0; value = None; dependency = 0; condition = 1 } ∷ [] })
    (record { values = None ∷ Some (Text 3) ∷ []; texts = (7 ∷ []) ∷ [] }) ≡ Some (Contradiction (HiddenSet 0 0))
text_chosen = refl
