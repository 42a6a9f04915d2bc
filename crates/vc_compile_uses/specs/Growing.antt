-- Texts that grow by others, each unless it is there, with their numbers.
use Rattle.std.specs.Prelude.{◌≡◌, ℕ, if◌then◌else◌, List, [], ◌∷◌, ◌++◌, map}
use Rattle.std.specs.List.{position}
use Rattle.std.specs.Str.{bytes_eq}
use Rattle.std.proofs.Common.{Bor}
use Rattle.vc_compile_plan.specs.Texts.{is_text_of}
use Rattle.vc_types_names.specs.FirstNames.{value_of}
use Rattle.vc_types_names.specs.declared.first_named.FirstNamed.{FirstNamed}

abbrev pub texts_seen : List (Bor (List ℕ)) → List (List ℕ)
texts_seen texts = map (λ t. t.now) texts

abbrev pub with_text : List (List ℕ) → List ℕ → List (List ℕ)
with_text texts text = if is_text_of texts text then texts else (texts ++ text ∷ [])

abbrev pub with_texts : List (List ℕ) → List (List ℕ) → List (List ℕ)
with_texts texts [] = texts
with_texts texts (text ∷ more) = with_texts (with_text texts text) more

-- each text has its first place as its number
abbrev pub Numbers : FirstNamed ℕ → List (List ℕ) → Type 0
Numbers numbers texts = (text : List ℕ) → value_of numbers text ≡ position (λ other. bytes_eq other text) texts
