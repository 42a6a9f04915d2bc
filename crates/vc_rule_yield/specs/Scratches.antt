-- Room for notes by rows of a table, and for marks by keys.
use Rattle.std.specs.Prelude.{◌≡◌, ℕ, length, Option, None, Some}
use Rattle.vc_rule_yield.specs.declared.scratch.Marks.{Marks}
use Rattle.vc_rule_yield.specs.declared.scratch.Notes.{Notes}
use Rattle.vc_rule_yield.specs.declared.scratch.Scratch.{Scratch}

abbrev pub has_notes : ℕ → ℕ → Notes → Type 0
has_notes rows keys notes = (length notes.rows ≡ rows) × (length notes.left ≡ keys)

abbrev pub has_marks : ℕ → ℕ → Marks → Type 0
has_marks rows keys marks =
    (length marks.had ≡ keys) × (length marks.heads ≡ keys) × (length marks.next ≡ rows)

abbrev pub notes_there : ℕ → ℕ → Option Notes → Type 0
notes_there rows keys None = ⊥
notes_there rows keys (Some notes) = has_notes rows keys notes

abbrev pub marks_there : ℕ → ℕ → Option Marks → Type 0
marks_there rows keys None = ⊥
marks_there rows keys (Some marks) = has_marks rows keys marks

abbrev pub has_rooms : ℕ → ℕ → Scratch → Type 0
has_rooms rows keys scratch = notes_there rows keys scratch.notes × marks_there rows keys scratch.marks
