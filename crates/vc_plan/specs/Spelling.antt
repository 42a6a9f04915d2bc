-- How names, materials and texts of a plan are spelled.
use Rattle.std.specs.Prelude.{ℕ, ◌/◌, Bool, true, false, not, ◌&&◌, ◌||◌, ◌==◌, nat_lt, nat_le, List, [], ◌∷◌, length}
use Rattle.std.specs.Prelude.{map, Option, None, Some}
use Rattle.std.specs.Char.{is_ascii_alphanumeric, to_ascii_uppercase}
use Rattle.std.specs.List.{filter, list_all}
use Rattle.vc_value.specs.Names.{is_name}
use Rattle.vc_value.specs.Words.{same_bytes}

-- a word in upper case, and a name
abbrev pub is_upper : List ℕ → Bool
is_upper word = same_bytes (map to_ascii_uppercase word) word

abbrev pub is_upper_name : List ℕ → Bool
is_upper_name name = is_name name && is_upper name

-- 1 to 18 letters, digits, `-`, `_`, `.` and `/`, in upper case: a material or a unit
abbrev pub is_material_byte : ℕ → Bool
is_material_byte b = is_ascii_alphanumeric b || (((b == 45) || (b == 95)) || ((b == 46) || (b == 47)))

abbrev pub is_material : List ℕ → Bool
is_material word = (nat_lt 0 (length word) && nat_le (length word) 18)
    && (list_all is_material_byte word && is_upper word)

abbrev pub is_unit : Option (List ℕ) → Bool
is_unit None = true
is_unit (Some word) = is_material word

-- 1 to 30 characters: bytes that don't go on with one
abbrev pub begins_character : ℕ → Bool
begins_character b = not (b / 64 == 2)

abbrev pub is_text : List ℕ → Bool
is_text word = nat_lt 0 (length word) && nat_le (length (filter begins_character word)) 30

-- a control character: below the space, the one behind the last graphic one of ASCII, or one of those from U+0080 to
-- U+009F
abbrev pub has_control : List ℕ → Bool
has_control [] = false
has_control (b ∷ []) = nat_lt b 32 || (b == 127)
has_control (b ∷ c ∷ bytes) = ((nat_lt b 32 || (b == 127)) || ((b == 194) && nat_lt c 160)) || has_control (c ∷ bytes)

-- a text that is there has none
abbrev pub is_graphic : Option (List ℕ) → Bool
is_graphic None = false
is_graphic (Some word) = not (has_control word)
