-- What is written in the form is read as it was.
use Rattle.std.specs.Prelude.{◌≡◌, ◌<◌, ◌^◌, ⊤, List, [], ◌∷◌, Some, IsUtf8}
use Rattle.serde_json.specs.Read.{read}
use Rattle.vc_store_forms.specs.Forms.{Choice, Saved, form_text, saved_data}
use Rattle.vc_store_forms.specs.Shapes.{saved_in}

-- whether the numbers are of 64 bits
abbrev pub AreSmall : List Choice → Type 0
AreSmall [] = ⊤
AreSmall (choice ∷ choices) = (choice.instance < 2 ^ 64) × AreSmall choices

-- the text is JSON, of which the form says what was written
abbrev pub FormIsRead : Type 0
FormIsRead = (saved : Saved) → saved.version < 2 ^ 64 → AreSmall saved.choices
    → (read (form_text saved) ≡ Some (saved_data saved)) × (saved_in (saved_data saved) ≡ Some saved)

-- whether the words are UTF-8
abbrev pub AreUtf8 : List Choice → Type 0
AreUtf8 [] = ⊤
AreUtf8 (choice ∷ choices) = (IsUtf8 choice.characteristic × IsUtf8 choice.value) × AreUtf8 choices

-- so is the text, where they are and the model's name is
abbrev pub FormIsUtf8 : Type 0
FormIsUtf8 = (saved : Saved) → IsUtf8 saved.model → AreUtf8 saved.choices → IsUtf8 (form_text saved)
