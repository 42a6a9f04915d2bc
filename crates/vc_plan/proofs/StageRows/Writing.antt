-- What procedures of the root write: what they read, when they run, and what is rounded.
use Rattle.std.proofs.Common.{◌≡◌, ℕ, pos, Bool, true, false, ◌&&◌, ◌==◌, List, [], ◌∷◌, refl}
use Rattle.std.specs.Prelude.{Option, Some, None, option_map, ◌≢◌, Box}
use Rattle.std.specs.declared.alloc.Global.{Global}
use Rattle.vc_value.specs.declared.table_header.Domain.TheVariants.{Texts, Nums}
use Rattle.vc_value.specs.declared.value.Value.{Value}
use Rattle.vc_value.specs.declared.value.Value.TheVariants.{Text, Num}
use Rattle.vc_plan.specs.declared.atoms.Atom.{Atom}
use Rattle.vc_plan.specs.declared.atoms.Atom.TheVariants.{Here, Out, Is}
use Rattle.vc_plan.specs.declared.atoms.Mark.{Mark}
use Rattle.vc_plan.specs.declared.atoms.Mark.TheVariants.{Held, Outside}
use Rattle.vc_plan.specs.declared.conditions.Condition.TheVariants.{Always, Specified, Not'}
use Rattle.vc_plan.specs.declared.conditions.Piece.TheVariants.{OneText}
use Rattle.vc_plan.specs.declared.plans.Plan.{Plan}
use Rattle.vc_plan.specs.declared.procedures.Action.TheVariants.{Assign, SetDefault, DeleteDefault, LookUp}
use Rattle.vc_plan.specs.declared.procedures.Procedure.{Procedure}
use Rattle.vc_plan.specs.declared.procedures.Statement.{Statement}
use Rattle.vc_plan.specs.declared.procedures.Trigger.{Trigger}
use Rattle.vc_plan.specs.declared.procedures.Trigger.TheVariants.{ValueIn, TextIn}
use Rattle.vc_plan.specs.declared.terms.Term.TheVariants.{Literal, Read}
use Rattle.vc_plan.specs.Entries.{Written, no_entries, written_at}
use Rattle.vc_plan.specs.Writes.{depth_writes}
use Rattle.vc_plan.proofs.PlanRows.Models.{empty, fixed_var, from_to, number, root, table_of, three_grains, whole}
use Rattle.vc_plan.proofs.StageRows.StageModels.{always, says}

-- variable 0 is COLOR and variable 1 is SHADE, each RED 0, BLUE 1 or GREEN 2; variable 2 is LEVEL, with the grains 1, 2
-- .. 3
-- and 4; variable 3 is RATE, from 0 to 9 with one decimal; set 0 is OPT. Conditions 1 and 2 ask whether SHADE has no
-- value and
-- COLOR has one. The table has the row 1, 2.5
abbrev with : Box (Unit {0}) Global → List Procedure → Plan
with p procedures = record empty {
  domains = Texts (0 ∷ 1 ∷ 2 ∷ []) ∷ Texts (0 ∷ 1 ∷ 2 ∷ []) ∷ three_grains ∷ Nums 1 (from_to 0 9 ∷ [])
      ∷ Texts (7 ∷ 8 ∷ []) ∷ [];
  tables = table_of ((whole 1 ∷ number (pos 2_500_000) ∷ []) ∷ []) ∷ [];
  slots = root ∷ [];
  vars = fixed_var 0 ∷ fixed_var 1 ∷ fixed_var 2 ∷ fixed_var 3 ∷ [];
  sets = record { slot = 0; characteristic = 4; domain = 4 } ∷ [];
  conditions = Always ∷ Not' p (Specified 1) ∷ Specified 0 ∷ [];
  terms =
      Literal (Text 0) ∷ Literal (Text 2) ∷ Literal (Text 7) ∷ Read 0 ∷ Literal (number (pos 2_550_000))
      ∷ Literal (number (pos 4_400_000)) ∷ Literal (whole 1) ∷ Literal (number (pos 1_400_000)) ∷ Literal (whole 3)
      ∷ [];
  procedures = procedures;
}

abbrev red : ℕ
red = 0

abbrev green : ℕ
green = 1

abbrev unlisted : ℕ
unlisted = 2

-- what stands for a variable after the procedures, where the user put the text 7 into the set
abbrev left_by : List Procedure → List Atom → ℕ → Box (Unit {0}) Global → Option Written
left_by procedures set v p =
    written_at (depth_writes (with p procedures) (λ s text. (s == 0) && (text == 7)) 0 (Here 0 ∷ set)
    (no_entries (with p procedures))) v

abbrev profile : List Statement → List Procedure
profile statements = always 0 statements ∷ []

abbrev where_it_is : Trigger → List Statement → Procedure
where_it_is trigger statements = record { slot = 0; dependency = 0; trigger = trigger; statements = statements }

abbrev hard : Value → ℕ → ℕ → Option Written
hard a procedure statement = Some (record { mark = Held a; hard = true; procedure = procedure; statement = statement })

abbrev default : Value → ℕ → ℕ → Option Written
default a procedure statement =
    Some (record { mark = Held a; hard = false; procedure = procedure; statement = statement })

-- the text that stands, if one does; whether it is a value outside the list; and the number of its statement
abbrev text_in : Option Written → Option ℕ
text_in None = None
text_in (Some written) = in_mark written.mark
  where
    in_mark : Mark → Option ℕ
    in_mark (Held (Text t)) = Some t
    in_mark (Held (Num a)) = None
    in_mark Outside = None

abbrev is_outside : Option Written → Bool
is_outside None = false
is_outside (Some written) = in_mark written.mark
  where
    in_mark : Mark → Bool
    in_mark (Held a) = false
    in_mark Outside = true

abbrev statement_in : Option Written → Option ℕ
statement_in written = option_map (λ w. w.statement) written

abbrev blue : List Atom
blue = Is 0 (Text 1) ∷ []

-- a default is entered where its grain is left in the stage
default_left : (p : Box (Unit {0}) Global)
    → left_by (profile (says (SetDefault 0 red) 0 ∷ [])) [] 0 p ≡ default (Text 0) 0 0
default_left p = refl

default_out : (p : Box (Unit {0}) Global) → left_by (profile (says (SetDefault 0 red) 0 ∷ [])) (Out 0 0 ∷ []) 0 p ≡ None
default_out p = refl

default_listed : (p : Box (Unit {0}) Global)
    → left_by (profile (says (SetDefault 0 red) 0 ∷ [])) (Out 0 0 ∷ []) 0 p ≢ default (Text 0) 0 0
default_listed p e = cc

-- a later default takes the place of an earlier one
default_again : (p : Box (Unit {0}) Global)
    → left_by (profile (says (SetDefault 0 red) 0 ∷ says (SetDefault 0 green) 0 ∷ [])) [] 0 p ≡ default (Text 2) 0 1
default_again p = refl

-- COLOR is blue in the stage and green by the first statement; the second reads green
map_first : (p : Box (Unit {0}) Global)
    → left_by (profile (says (Assign 0 green) 0 ∷ says (Assign 1 3) 0 ∷ [])) blue 1 p ≡ hard (Text 2) 0 1
map_first p = refl

stage_first : (p : Box (Unit {0}) Global)
    → text_in (left_by (profile (says (Assign 0 green) 0 ∷ says (Assign 1 3) 0 ∷ [])) blue 1 p) ≢ Some 1
stage_first p e = cc

-- a value outside the list reads as none: by a term, by SPECIFIED and by a value's procedure
outside : (p : Box (Unit {0}) Global)
    → left_by (profile (says (Assign 0 unlisted) 0 ∷ [])) blue 0 p
    ≡ Some (record { mark = Outside; hard = true; procedure = 0; statement = 0 })
outside p = refl

outside_is_none : (p : Box (Unit {0}) Global)
    → left_by (profile (says (Assign 0 unlisted) 0 ∷ says (Assign 1 3) 0 ∷ [])) blue 1 p ≡ None
outside_is_none p = refl

outside_is_stage's : (p : Box (Unit {0}) Global)
    → text_in (left_by (profile (says (Assign 0 unlisted) 0 ∷ says (Assign 1 3) 0 ∷ [])) blue 1 p) ≢ Some 1
outside_is_stage's p e = cc

outside_unspecified : (p : Box (Unit {0}) Global)
    → left_by (profile (says (Assign 0 unlisted) 0 ∷ says (Assign 1 red) 2 ∷ [])) blue 1 p ≡ None
outside_unspecified p = refl

outside_triggers : (p : Box (Unit {0}) Global)
    → left_by (always 0 (says (Assign 0 unlisted) 0 ∷ [])
    ∷ where_it_is (ValueIn 0 (OneText 1)) (says (Assign 1 red) 0 ∷ []) ∷ []) blue 1 p ≡ None
outside_triggers p = refl

-- SPECIFIED of what has no value is False, so its NOT is True
without_shade : (p : Box (Unit {0}) Global) → left_by (profile (says (Assign 0 red) 1 ∷ [])) [] 0 p ≡ hard (Text 0) 0 0
without_shade p = refl

without_shade_unknown : (p : Box (Unit {0}) Global) → left_by (profile (says (Assign 0 red) 1 ∷ [])) [] 0 p ≢ None
without_shade_unknown p e = cc

with_color : (p : Box (Unit {0}) Global) → left_by (profile (says (Assign 1 red) 2 ∷ [])) blue 1 p ≡ hard (Text 0) 0 0
with_color p = refl

-- a value's procedure is asked for once, before its statements: the first takes its value away, and the second runs
asked_once : (p : Box (Unit {0}) Global)
    → left_by (where_it_is (ValueIn 0 (OneText 1)) (says (Assign 0 green) 0 ∷ says (Assign 1 red) 0 ∷ []) ∷ []) blue 1 p
    ≡ hard (Text 0) 0 1
asked_once p = refl

asked_again : (p : Box (Unit {0}) Global)
    → left_by (where_it_is (ValueIn 0 (OneText 1)) (says (Assign 0 green) 0 ∷ says (Assign 1 red) 0 ∷ []) ∷ []) blue 1 p
    ≢ None
asked_again p e = cc

-- it doesn't run at another value, and it does at one that stands by now
other_value : (p : Box (Unit {0}) Global)
    → left_by (where_it_is (ValueIn 0 (OneText 2)) (says (Assign 1 red) 0 ∷ []) ∷ []) blue 1 p ≡ None
other_value p = refl

by_now : (p : Box (Unit {0}) Global)
    → left_by (always 0 (says (Assign 0 green) 0 ∷ [])
    ∷ where_it_is (ValueIn 0 (OneText 2)) (says (Assign 1 red) 0 ∷ []) ∷ []) blue 1 p
    ≡ hard (Text 0) 1 0
by_now p = refl

-- a set's runs where the set has its text
by_text : (p : Box (Unit {0}) Global)
    → left_by (where_it_is (TextIn 0 7) (says (Assign 1 red) 0 ∷ []) ∷ []) [] 1 p ≡ hard (Text 0) 0 0
by_text p = refl

by_other_text : (p : Box (Unit {0}) Global)
    → left_by (where_it_is (TextIn 0 8) (says (Assign 1 red) 0 ∷ []) ∷ []) [] 1 p ≡ None
by_other_text p = refl

by_any_text : (p : Box (Unit {0}) Global)
    → left_by (where_it_is (TextIn 0 8) (says (Assign 1 red) 0 ∷ []) ∷ []) [] 1 p ≢ hard (Text 0) 0 0
by_any_text p e = cc

-- entries are rounded: 2.55 to 3 and to 2.6
rounded_level : (p : Box (Unit {0}) Global) → left_by (profile (says (Assign 2 4) 0 ∷ [])) [] 2 p ≡ hard (whole 3) 0 0
rounded_level p = refl

rounded_rate : (p : Box (Unit {0}) Global)
    → left_by (profile (says (Assign 3 4) 0 ∷ [])) [] 3 p ≡ hard (number (pos 2_600_000)) 0 0
rounded_rate p = refl

unrounded : (p : Box (Unit {0}) Global)
    → is_outside (left_by (profile (says (Assign 2 4) 0 ∷ [])) [] 2 p) ≢ true
unrounded p e = cc

-- a default before it is looked for: 4.4 is 4
rounded_default : (p : Box (Unit {0}) Global)
    → left_by (profile (says (SetDefault 2 5) 0 ∷ [])) [] 2 p ≡ default (whole 4) 0 0
rounded_default p = refl

unrounded_default : (p : Box (Unit {0}) Global) → left_by (profile (says (SetDefault 2 5) 0 ∷ [])) [] 2 p ≢ None
unrounded_default p e = cc

-- and one that is deleted: 2.55 deletes the default 3
rounded_deletion : (p : Box (Unit {0}) Global)
    → left_by (profile (says (SetDefault 2 8) 0 ∷ says (DeleteDefault 2 4) 0 ∷ [])) [] 2 p ≡ None
rounded_deletion p = refl

unrounded_deletion : (p : Box (Unit {0}) Global)
    → left_by (profile (says (SetDefault 2 8) 0 ∷ says (DeleteDefault 2 4) 0 ∷ [])) [] 2 p ≢ default (whole 3) 0 0
unrounded_deletion p e = cc

-- a look-up compares its key as it is, and rounds what it enters
looked_up : (p : Box (Unit {0}) Global)
    → left_by (profile (says (LookUp 0 (record { column = 0; term = 6 } ∷ []) (record { column = 1; var = 2 } ∷ [])) 0
    ∷ [])) [] 2 p
    ≡ hard (whole 3) 0 0
looked_up p = refl

key_unrounded : (p : Box (Unit {0}) Global)
    → left_by (profile (says (LookUp 0 (record { column = 0; term = 7 } ∷ []) (record { column = 1; var = 2 } ∷ [])) 0
    ∷ [])) [] 2 p ≡ None
key_unrounded p = refl

-- entries name their procedure and statement, both numbered from 0
second_statement : (p : Box (Unit {0}) Global)
    → left_by (always 0 [] ∷ always 0 (says (Assign 0 red) 0 ∷ says (Assign 1 red) 0 ∷ []) ∷ []) [] 1 p
    ≡ hard (Text 0) 1 1
second_statement p = refl

first_statement : (p : Box (Unit {0}) Global)
    → statement_in (left_by (always 0 [] ∷ always 0 (says (Assign 0 red) 0 ∷ says (Assign 1 red) 0 ∷ []) ∷ []) [] 1 p) ≢
    Some 0
first_statement p e = cc
