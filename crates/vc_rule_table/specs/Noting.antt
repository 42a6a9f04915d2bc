-- What is noted of a row: the first column in which it isn't possible, and the first of those that are given something
-- else than that one.
use Rattle.std.specs.Prelude.{◌≡◌, ℕ, zero, suc, Bool, true, not, ◌&&◌, ◌||◌, nat_lt, if◌then◌else◌, List, [], ◌∷◌}
use Rattle.std.specs.Prelude.{length}
use Rattle.std.specs.Prelude.{slice_get, Option, None, Some}
use Rattle.std.specs.List.{find}
use Rattle.vc_value.specs.declared.value.Value.{Value}
use Rattle.vc_plan.specs.declared.plans.Plan.{Plan}
use Rattle.vc_plan.specs.declared.rules.Binding.{Binding}
use Rattle.vc_plan.specs.declared.rules.Operand.{Operand}
use Rattle.vc_plan.specs.declared.rules.Operand.TheVariants.{Constant, Variable}
use Rattle.vc_plan.specs.Seen.{Seen}
use Rattle.vc_plan.specs.TableRows.{is_possible, is_column_of}
use Rattle.vc_rule_yield.specs.declared.scratch.Note.{Note}
use Rattle.vc_rule_yield.specs.declared.scratch.Notes.{Notes}
use Rattle.vc_rule_table.specs.Cells.{is_given}
use Rattle.vc_rule_table.specs.Reasons.{first_misfit}

-- whether the column is given something else; what is given a literal differs from all
abbrev pub is_apart : Operand → Binding → Bool
is_apart (Constant b) column = true
is_apart (Variable v) column = not (is_column_of v column)

abbrev pub second_misfit : Plan → Seen → List Binding → List Value → Option Binding → Option Binding
second_misfit plan seen columns row None = None
second_misfit plan seen columns row (Some first) =
    find (λ column. not (is_possible plan seen row column) && is_apart first.operand column) columns

-- the note tells, by places among all columns, both of these columns
abbrev pub IsNoteOf : Plan → Seen → List Binding → List Binding → List Value → Note → Type 0
IsNoteOf plan seen all columns row note =
    (slice_get all note.first ≡ first_misfit plan seen columns row)
    × (slice_get all note.second ≡ second_misfit plan seen columns row (slice_get all note.first))

-- each note, of so many as there are, is its row's
abbrev pub AreNotesOf : Plan → Seen → List Binding → List Binding → List (List Value) → List Note → Type 0
AreNotesOf plan seen all columns [] notes = Unit {0}
AreNotesOf plan seen all columns (row ∷ rows) [] = Unit {0}
AreNotesOf plan seen all columns (row ∷ rows) (note ∷ notes) =
    IsNoteOf plan seen all columns row note × AreNotesOf plan seen all columns rows notes

abbrev pub AreNotes : Plan → Seen → List Binding → List (List Value) → List Note → Type 0
AreNotes plan seen columns rows notes = AreNotesOf plan seen columns columns rows notes

-- the note is the row's, if there is one
abbrev pub HasNote : Plan → Seen → List Binding → List Value → Option Note → Type 0
HasNote plan seen columns row None = Unit {0}
HasNote plan seen columns row (Some note) = IsNoteOf plan seen columns columns row note

-- the first column in which the row isn't possible, but for those of a variable, if one is named
abbrev pub noted_misfit : Option ℕ → Option Binding → Option Binding → Option Binding
noted_misfit but None second = None
noted_misfit but (Some first) second = if is_given but first then second else Some first

abbrev pub noted_in : Option Notes → List Note
noted_in None = []
noted_in (Some notes) = notes.rows

-- what is noted where there is no column
abbrev pub no_misfit : List Binding → Note
no_misfit columns = record { first = length columns; second = length columns }

-- with one more column in which the row isn't possible
abbrev pub with_misfit : ℕ → Binding → Note → Option Binding → Note
with_misfit place column note None =
    record { first = place; second = if is_apart column.operand column then place else note.second }
with_misfit place column note (Some first) =
    if is_apart first.operand column then record { first = note.first; second = place } else note

-- with one more column
abbrev pub next_note : Plan → Seen → List Binding → ℕ → Binding → List Value → Note → Note
next_note plan seen columns place column row note =
    if nat_lt note.second (length columns) || is_possible plan seen row column then note
    else with_misfit place column note (slice_get columns note.first)

-- one element changed, and each by an element of another list, as far as both go
abbrev pub changed : {A : Type 0} → (A → A) → ℕ → List A → List A
changed f n [] = []
changed f zero (x ∷ xs) = f x ∷ xs
changed f (suc n) (x ∷ xs) = x ∷ changed f n xs

abbrev pub changed_by : {A B : Type 0} → (B → A → A) → Option B → ℕ → List A → List A
changed_by f None n xs = xs
changed_by f (Some b) n xs = changed (f b) n xs

abbrev pub each_changed : {A B : Type 0} → (B → A → A) → List B → List A → List A
each_changed f [] xs = xs
each_changed f (b ∷ bs) [] = []
each_changed f (b ∷ bs) (x ∷ xs) = f b x ∷ each_changed f bs xs
