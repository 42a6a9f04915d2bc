-- How names are spelled, in either case.
use Rattle.std.specs.Prelude.{ℕ, Bool, false, List, [], ◌∷◌, length, nat_lt, nat_le, ◌==◌, ◌&&◌, ◌||◌}
use Rattle.std.specs.List.{list_all}
use Rattle.std.specs.Char.{is_ascii_alphabetic, is_ascii_alphanumeric}

-- a letter or an underscore
abbrev pub begins_name : ℕ → Bool
begins_name byte = is_ascii_alphabetic byte || (byte == 95)

-- a letter, a digit or an underscore
abbrev pub is_name_byte : ℕ → Bool
is_name_byte byte = is_ascii_alphanumeric byte || (byte == 95)

-- at most 29 letters, digits and underscores
abbrev pub ends_name : List ℕ → Bool
ends_name bytes = nat_lt (length bytes) 30 && list_all is_name_byte bytes

-- a name: a letter or an underscore, then letters, digits and underscores, 1 to 30 in all
abbrev pub is_name : List ℕ → Bool
is_name [] = false
is_name (first ∷ more) = begins_name first && ends_name more

-- a letter, a digit, an underscore or a hyphen
abbrev pub is_session_byte : ℕ → Bool
is_session_byte byte = is_name_byte byte || (byte == 45)

-- a length from 1 to 40
abbrev pub is_session_length : ℕ → Bool
is_session_length count = nat_lt 0 count && nat_le count 40

-- the name of a session: 1 to 40 letters, digits, underscores and hyphens
abbrev pub is_session_name : List ℕ → Bool
is_session_name bytes = is_session_length (length bytes) && list_all is_session_byte bytes
