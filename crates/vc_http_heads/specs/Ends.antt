-- Where the head of a message ends, among bytes that may go on.
use Rattle.std.specs.Prelude.{ℕ, ◌+◌, Bool, ◌||◌, ◌==◌, nat_le, nat_lt, List, [], ◌∷◌, length, take, Option, None, Some}
use Rattle.std.specs.Prelude.{if◌then◌else◌}
use Rattle.vc_http_heads.specs.declared.ends.Place.{Place}
use Rattle.vc_http_heads.specs.declared.ends.Place.TheVariants as place

-- CR and LF
abbrev pub is_line_byte : ℕ → Bool
is_line_byte byte = (byte == 13) || (byte == 10)

-- where one byte leads: CR and LF in front are passed over; none where an LF, alone or behind a CR, follows an LF
-- directly: it ends the head
abbrev pub next_place : Place → ℕ → Option Place
next_place place.Before byte = if is_line_byte byte then Some place.Before else Some place.Inside
next_place place.Inside byte = if byte == 10 then Some place.AfterLine else Some place.Inside
next_place place.AfterLine byte =
    if byte == 10 then None else (if byte == 13 then Some place.AfterReturn else Some place.Inside)
next_place place.AfterReturn byte = if byte == 10 then None else Some place.Inside

abbrev pub unless_ended : Option Place → ℕ → (Place → Option ℕ) → Option ℕ
unless_ended None count go = Some count
unless_ended (Some next) count go = go next

-- how many bytes a head has that goes on here, so many in
abbrev pub end_from : Place → ℕ → List ℕ → Option ℕ
end_from now count [] = None
end_from now count (byte ∷ bytes) =
    unless_ended (next_place now byte) (count + 1) (λ next. end_from next (count + 1) bytes)

-- how many bytes the head has with which these begin, if it ends among them
abbrev pub head_len : List ℕ → Option ℕ
head_len bytes = end_from place.Before 0 bytes

-- how many LF there are
abbrev pub count_lines : List ℕ → ℕ
count_lines [] = 0
count_lines (byte ∷ bytes) = (if byte == 10 then 1 else 0) + count_lines bytes

-- whether a head of so many bytes is too large
abbrev pub is_large : List ℕ → ℕ → Bool
is_large bytes len = nat_lt 8192 len || nat_lt 66 (count_lines (take len bytes))

-- the head without the CR and LF in front
abbrev pub skip_blank : List ℕ → List ℕ
skip_blank [] = []
skip_blank (byte ∷ bytes) = if is_line_byte byte then skip_blank bytes else byte ∷ bytes
