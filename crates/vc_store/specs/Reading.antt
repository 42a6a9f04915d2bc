-- What a saved text gives: what the user chose, or the first fault that it has.
use Rattle.std.specs.Prelude.{◌≡◌, ⊤, ℕ, Bool, ◌&&◌, ◌==◌, if◌then◌else◌, List, Option, None, Some, is_some}
use Rattle.std.specs.Prelude.{Result, Ok, Err}
use Rattle.std.specs.List.{list_all}
use Rattle.std.specs.Str.{is_utf8}
use Rattle.serde_json.specs.Data.{Data}
use Rattle.serde_json.specs.Read.{read}
use Rattle.serde_json.specs.View.{view}
use Rattle.serde_json.specs.declared.value.Value.{Value as Json}
use Rattle.vc_value.specs.Words.{same_bytes}
use Rattle.vc_plan.specs.declared.plans.Plan.{Plan}
use Rattle.vc_plan_users.specs.Choosing.{Chosen}
use Rattle.vc_store_forms.specs.Forms.{Choice, Saved}
use Rattle.vc_store_forms.specs.Shapes.{saved_in}
use Rattle.vc_store.specs.declared.faults.SavedFault.{SavedFault}
use Rattle.vc_store.specs.declared.faults.SavedFault.TheVariants.{NotJson, Shape, OtherModel, UnknownName, OutOfMemory}
use Rattle.vc_store.specs.Meaning.{chosen_by, meaning, meanings, stands_twice}

-- whether it was saved of this model, and whether the plan knows each value
abbrev pub is_of : Plan → Saved → Bool
is_of plan saved = same_bytes saved.model plan.name && (saved.version == plan.version)

abbrev pub are_known : Plan → List Choice → Bool
are_known plan choices = list_all (λ choice. is_some (meaning plan choice)) choices

-- what the user chose, where nothing stands twice, the model is this one and all is known; else what is wrong first
abbrev pub read_known : Plan → Saved → Result Chosen SavedFault
read_known plan saved =
    if are_known plan saved.choices then Ok (chosen_by plan (meanings plan saved.choices)) else Err UnknownName

abbrev pub read_form : Plan → Saved → Result Chosen SavedFault
read_form plan saved =
    if stands_twice plan saved.choices
    then Err Shape
    else (if is_of plan saved then read_known plan saved else Err OtherModel)

abbrev pub read_shape : Plan → Option Saved → Result Chosen SavedFault
read_shape plan None = Err Shape
read_shape plan (Some saved) = read_form plan saved

abbrev pub read_json : Plan → Option Data → Result Chosen SavedFault
read_json plan None = Err NotJson
read_json plan (Some json) = read_shape plan (saved_in json)

-- the JSON value that a text is; one that isn't UTF-8 is none
abbrev pub json_in : List ℕ → Option Data
json_in text = if is_utf8 text then read text else None

abbrev pub read_saved : Plan → List ℕ → Result Chosen SavedFault
read_saved plan text = read_json plan (json_in text)

-- whether it is this answer, or memory was wanting
abbrev pub IsUnlessMemory : Result Chosen SavedFault → Result Chosen SavedFault → Type 0
IsUnlessMemory (Ok chosen) answer = answer ≡ Ok chosen
IsUnlessMemory (Err NotJson) answer = answer ≡ Err NotJson
IsUnlessMemory (Err Shape) answer = answer ≡ Err Shape
IsUnlessMemory (Err OtherModel) answer = answer ≡ Err OtherModel
IsUnlessMemory (Err UnknownName) answer = answer ≡ Err UnknownName
IsUnlessMemory (Err OutOfMemory) answer = ⊤

-- the same of the text's JSON alone
abbrev pub IsJsonUnlessMemory : List ℕ → Result Json SavedFault → Type 0
IsJsonUnlessMemory text (Ok json) = json_in text ≡ Some (view json)
IsJsonUnlessMemory text (Err NotJson) = json_in text ≡ None
IsJsonUnlessMemory text (Err Shape) = ⊥
IsJsonUnlessMemory text (Err OtherModel) = ⊥
IsJsonUnlessMemory text (Err UnknownName) = ⊥
IsJsonUnlessMemory text (Err OutOfMemory) = ⊤
