-- Which model a text spells, and which fault it has.
use Rattle.std.specs.Prelude.{◌≡◌, ℕ, List, IsUtf8, Result, Ok, Err}
use Rattle.vc_model_faults.specs.declared.fault.ModelFaultKind.{ModelFaultKind}
use Rattle.vc_model_faults.specs.declared.fault.ModelFaultKind.TheVariants.{NotText}
use Rattle.vc_model_faults.specs.declared.fault.ModelFault.{ModelFault}
use Rattle.vc_model_faults.specs.declared.fault.ModelFault.TheVariants.{Bad, OutOfMemory}
use Rattle.vc_model_faults.specs.First.{IsFirstFault, HasNoFault}
use Rattle.vc_model_lines.specs.Classified.{lines_of}
use Rattle.vc_model_parts.specs.declared.parts.Model.{Model}
use Rattle.vc_model_drafts.specs.Seen.{SeenModel, seen_model}
use Rattle.vc_model_drafts.specs.Models.{model_of}

-- no line of the text has a fault, and the lines describe the model
pub record Spells (text : List ℕ) (model : SeenModel) : Type 0 where
  pub utf8 : IsUtf8 text
  pub sound : HasNoFault (lines_of text)
  pub model_is : model ≡ model_of (lines_of text)

-- the text isn't UTF-8, or this is its first faulty line with the least kind there
pub data IsFault (text : List ℕ) : ModelFaultKind → ℕ → Type 0 where
  not_text : ¬ IsUtf8 text → IsFault text NotText 0
  at_line : {kind : ModelFaultKind} {number : ℕ} → IsUtf8 text → IsFirstFault (lines_of text) kind number
      → IsFault text kind number

-- what the call answers is what there is, unless memory ran out
abbrev pub Answers : Result Model ModelFault → Result SeenModel ModelFault → Type 0
Answers (Ok model) found = found ≡ Ok (seen_model model)
Answers (Err OutOfMemory) found = Unit {0}
Answers (Err (Bad kind line)) found = found ≡ Err (Bad kind line)

-- the text has a fault
abbrev pub HasFault : List ℕ → Type 0
HasFault text = (kind : ModelFaultKind) × (line : ℕ) × IsFault text kind line

-- the text spells no model
abbrev pub SpellsNone : List ℕ → Type 0
SpellsNone text = (model : SeenModel) → Spells text model → ⊥
