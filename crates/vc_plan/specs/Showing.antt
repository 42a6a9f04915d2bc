-- What is hidden, what is required, and the status of an evaluation that is settled.
use Rattle.std.specs.Prelude.{ℕ, Bool, true, false, not, ◌&&◌, ◌||◌, ◌==◌, if◌then◌else◌, List, [], ◌∷◌, length}
use Rattle.std.specs.Prelude.{slice_get, Option, None, Some, is_none, is_some}
use Rattle.std.specs.List.{find, list_any}
use Rattle.vc_plan.specs.declared.atoms.Culprit.{Culprit}
use Rattle.vc_plan.specs.declared.atoms.Culprit.TheVariants.{Hidden, HiddenSet}
use Rattle.vc_plan.specs.declared.conditions.Piece.{Piece}
use Rattle.vc_plan.specs.declared.conditions.Piece.TheVariants.{OneText, Stretch}
use Rattle.vc_plan.specs.declared.plans.Characteristic.{Characteristic}
use Rattle.vc_plan.specs.declared.plans.Guard.{Guard}
use Rattle.vc_plan.specs.declared.plans.Named.{Named}
use Rattle.vc_plan.specs.declared.plans.Named.TheVariants.{Var, Set}
use Rattle.vc_plan.specs.declared.plans.Plan.{Plan}
use Rattle.vc_plan.specs.declared.plans.TextSet.{TextSet}
use Rattle.vc_plan.specs.declared.plans.Var.{Var as Variable}
use Rattle.vc_plan.specs.declared.shown.Status.{Status}
use Rattle.vc_plan.specs.declared.shown.Status.TheVariants.{Unfinished, Complete, Contradiction}
use Rattle.vc_plan.specs.Domains.{numbers_below}
use Rattle.vc_plan.specs.Kleene.{is_false, is_true}
use Rattle.vc_plan.specs.Pieces.{is_part, lies_in}
use Rattle.vc_plan.specs.Readings.{Reading}
use Rattle.vc_plan.specs.Seen.{Seen, is_slot_here, slot_in}
use Rattle.vc_plan.specs.TableRows.{cell_passes}
use Rattle.vc_plan.specs.Truth.{truth_at}

-- whether two names mean the same variable or set
abbrev pub same_named : Named → Named → Bool
same_named (Var v) (Var w) = v == w
same_named (Var v) (Set s) = false
same_named (Set s) (Var v) = false
same_named (Set s) (Set t) = s == t

-- the slot of what a name means, and whether it is here
abbrev pub slot_of_set : Option TextSet → Option ℕ
slot_of_set None = None
slot_of_set (Some x) = Some x.slot

abbrev pub slot_of_named : Plan → Named → Option ℕ
slot_of_named plan (Var v) = slot_in (slice_get plan.vars v)
slot_of_named plan (Set s) = slot_of_set (slice_get plan.sets s)

abbrev pub is_named_here : Plan → Seen → Named → Bool
is_named_here plan seen named = is_slot_here seen (slot_of_named plan named)

-- whether it has a value, or a text
abbrev pub is_empty : List ℕ → Bool
is_empty [] = true
is_empty (t ∷ texts) = false

abbrev pub has_value : Reading → Named → Bool
has_value reading (Var v) = is_some (reading.value v)
has_value reading (Set s) = not (is_empty (reading.texts s))

-- whether its value lies in the piece, or the set has the text
abbrev pub is_text : Piece → ℕ → Bool
is_text (OneText s) t = s == t
is_text (Stretch grain) t = false

abbrev pub has_piece : Reading → Named → Piece → Bool
has_piece reading (Var v) piece = cell_passes (λ a. lies_in a piece) (reading.value v)
has_piece reading (Set s) piece = list_any (is_text piece) (reading.texts s)

-- whether a precondition is violated where it stands: it is False
abbrev pub is_forbidden : Plan → Reading → Guard → Bool
is_forbidden plan reading guard = is_false (truth_at plan reading guard.condition)

-- a characteristic is hidden where a precondition of its own is False
abbrev pub is_hidden : Plan → Reading → Named → Bool
is_hidden plan reading named =
    list_any (λ guard. same_named guard.at named && is_none guard.value && is_forbidden plan reading guard) plan.guards

-- and a grain of its list where one at that value is
abbrev pub covers : Piece → Option Piece → Bool
covers grain None = false
covers grain (Some piece) = is_part grain piece

abbrev pub is_value_hidden : Plan → Reading → Named → Piece → Bool
is_value_hidden plan reading named grain =
    list_any (λ guard. same_named guard.at named && covers grain guard.value && is_forbidden plan reading guard)
    plan.guards

-- whether the characteristic is marked as required
abbrev pub is_marked : Option Characteristic → Bool
is_marked None = false
is_marked (Some characteristic) = characteristic.required

abbrev pub characteristic_of : Plan → Named → Option Characteristic
characteristic_of plan (Var v) = of_var (slice_get plan.vars v)
  where
    of_var : Option Variable → Option Characteristic
    of_var None = None
    of_var (Some x) = slice_get plan.characteristics x.characteristic
characteristic_of plan (Set s) = of_set (slice_get plan.sets s)
  where
    of_set : Option TextSet → Option Characteristic
    of_set None = None
    of_set (Some x) = slice_get plan.characteristics x.characteristic

-- a characteristic is required where it is marked so, or one of its selection conditions is True
abbrev pub is_required : Plan → Reading → Named → Bool
is_required plan reading named =
    is_marked (characteristic_of plan named)
    || list_any (λ requirement. same_named requirement.at named
    && is_true (truth_at plan reading requirement.selection.condition)) plan.requirements

-- whether a precondition of an instance here is violated: it is False, and what it stands at has a value, or has that
-- value
abbrev pub has_guarded : Reading → Named → Option Piece → Bool
has_guarded reading named None = has_value reading named
has_guarded reading named (Some piece) = has_piece reading named piece

abbrev pub is_violated : Plan → Seen → Reading → Guard → Bool
is_violated plan seen reading guard =
    is_named_here plan seen guard.at && has_guarded reading guard.at guard.value && is_forbidden plan reading guard

-- whom a violated precondition names
abbrev pub culprit_at : Named → ℕ → Culprit
culprit_at (Var v) dependency = Hidden dependency v
culprit_at (Set s) dependency = HiddenSet dependency s

-- whether a value is still asked for: the instance is here, and it is required, not hidden and without value
abbrev pub is_open : Plan → Seen → Reading → Named → Bool
is_open plan seen reading named =
    is_named_here plan seen named && is_required plan reading named && not (is_hidden plan reading named)
    && not (has_value reading named)

abbrev pub has_open : Plan → Seen → Reading → Bool
has_open plan seen reading =
    list_any (λ v. is_open plan seen reading (Var v)) (numbers_below (length plan.vars))
    || list_any (λ s. is_open plan seen reading (Set s)) (numbers_below (length plan.sets))

-- the status: the first violated precondition, else what is asked for
abbrev pub status_by : Plan → Seen → Reading → Option Guard → Status
status_by plan seen reading None = if has_open plan seen reading then Unfinished else Complete
status_by plan seen reading (Some guard) = Contradiction (culprit_at guard.at guard.dependency)

abbrev pub settled_status : Plan → Seen → Reading → Status
settled_status plan seen reading = status_by plan seen reading (find (is_violated plan seen reading) plan.guards)
