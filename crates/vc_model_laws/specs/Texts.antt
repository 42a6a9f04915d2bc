-- What a model keeps of the texts that characteristics may have as values.
use Rattle.std.specs.Prelude.{◌≡◌, ℕ, Bool, true, false, not, List, slice_get, Option, None, Some, IsUtf8}
use Rattle.std.specs.List.{list_all}
use Rattle.vc_model_lines.specs.WordSpellings.{is_value_text}
use Rattle.vc_model_parts.specs.declared.parts.Values.{Values}
use Rattle.vc_model_parts.specs.declared.parts.Values.TheVariants.{Texts, Numbers}
use Rattle.vc_model_drafts.specs.Seen.{SeenModel}
use Rattle.vc_plan.specs.Spelling.{has_control, is_text}

-- whether a text is there, of 1 to so many characters
abbrev pub is_short : ℕ → Option (List ℕ) → Bool
is_short length None = false
is_short length (Some text) = is_value_text length text

-- whether all texts of values are
abbrev pub are_short : List (List ℕ) → Values → Bool
are_short texts (Texts length multiple values) = list_all (λ value. is_short length (slice_get texts value.text)) values
are_short texts (Numbers decimals unit values) = true

pub record KeepsTexts (model : SeenModel) : Type 0 where
  pub texts : list_all is_text model.texts ≡ true
  pub graphic : list_all (λ text. not (has_control text)) model.texts ≡ true
  pub utf8 : (t : ℕ) (text : List ℕ) → slice_get model.texts t ≡ Some text → IsUtf8 text
  pub lengths : list_all (λ characteristic. are_short model.texts characteristic.values) model.characteristics ≡ true
