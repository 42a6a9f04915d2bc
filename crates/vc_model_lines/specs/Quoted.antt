-- Texts in quotes.
use Rattle.std.specs.Prelude.{ℕ, Bool, false, ◌==◌, List, [], ◌∷◌, Option, Some, None, option_map, if◌then◌else◌}

abbrev pub begins_with_quote : List ℕ → Bool
begins_with_quote [] = false
begins_with_quote (byte ∷ bytes) = byte == 39

-- the closing quote alone
abbrev pub is_closing : List ℕ → Bool
is_closing (byte ∷ []) = byte == 39
is_closing bytes = false

-- the empty text, where the closing quote follows
abbrev pub closed : List ℕ → Option (List ℕ)
closed bytes = if is_closing bytes then Some [] else None

-- what follows an opening quote: a text with each quote doubled, and the closing quote last
abbrev pub unquoted : List ℕ → Option (List ℕ)
unquoted [] = None
unquoted (byte ∷ []) = closed (byte ∷ [])
unquoted (byte ∷ next ∷ bytes) =
    if byte == 39
    then (if next == 39 then option_map (λ text. 39 ∷ text) (unquoted bytes) else None)
    else option_map (λ text. byte ∷ text) (unquoted (next ∷ bytes))

-- the text that is written whole in quotes
abbrev pub quoted_text : List ℕ → Option (List ℕ)
quoted_text [] = None
quoted_text (byte ∷ bytes) = if byte == 39 then unquoted bytes else None
