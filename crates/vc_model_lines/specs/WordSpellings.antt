-- How the words of a model text are spelled: names, materials and texts.
use Rattle.std.specs.Prelude.{ℕ, Bool, true, false, not, ◌==◌, ◌&&◌, ◌||◌, nat_lt, nat_le, List, [], ◌∷◌, length}
use Rattle.std.specs.Prelude.{count_by, Option, Some, None, is_some}
use Rattle.std.specs.List.{list_all}
use Rattle.std.specs.Char.{is_ascii_alphanumeric, is_ascii_control}
use Rattle.vc_value.specs.Names.{is_name}
use Rattle.vc_syntax_tokens.specs.Spellings.{reserved_of}

-- a reserved word of the dependency language, in upper case
unfoldable pub is_reserved : List ℕ → Bool
is_reserved name = is_some (reserved_of name)

-- a name that a characteristic may have
abbrev pub is_free_name : List ℕ → Bool
is_free_name name = is_name name && not (is_reserved name)

-- a hyphen, an underscore, a point or a slash
abbrev pub is_sign : ℕ → Bool
is_sign byte = (byte == 45) || (byte == 95) || (byte == 46) || (byte == 47)

-- a letter, a digit, a hyphen, an underscore, a point or a slash
abbrev pub is_material_byte : ℕ → Bool
is_material_byte byte = is_ascii_alphanumeric byte || is_sign byte

-- a length from 1 to 18
abbrev pub is_material_length : ℕ → Bool
is_material_length count = nat_lt 0 count && nat_le count 18

-- a material or a unit: 1 to 18 letters, digits, hyphens, underscores, points and slashes
abbrev pub is_material : List ℕ → Bool
is_material bytes = is_material_length (length bytes) && list_all is_material_byte bytes

abbrev pub is_unit : Option (List ℕ) → Bool
is_unit None = true
is_unit (Some unit) = is_material unit

-- a byte of UTF-8 that goes on no character
abbrev pub begins_character : ℕ → Bool
begins_character byte = not (nat_le 128 byte && nat_lt byte 192)

-- how many characters a text of UTF-8 has
abbrev pub character_count : List ℕ → ℕ
character_count text = count_by begins_character text

-- from 1 to the length
abbrev pub fits_length : ℕ → ℕ → Bool
fits_length length count = nat_lt 0 count && nat_le count length

abbrev pub ends_control : List ℕ → Bool
ends_control [] = false
ends_control (byte ∷ bytes) = nat_lt byte 160

-- one of Unicode's control characters stands there in UTF-8: up to U+001F, or from U+007F to U+009F
abbrev pub begins_control : ℕ → List ℕ → Bool
begins_control byte after = is_ascii_control byte || ((byte == 194) && ends_control after)

-- a control character stands in the text
abbrev pub has_control : List ℕ → Bool
has_control [] = false
has_control (byte ∷ bytes) = begins_control byte bytes || has_control bytes

-- a text that may be a value of a characteristic of this length
abbrev pub is_value_text : ℕ → List ℕ → Bool
is_value_text length text = fits_length length (character_count text) && not (has_control text)
