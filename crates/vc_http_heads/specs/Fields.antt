-- The fields of a head, by name. Names are the same in either case.
use Rattle.std.specs.Prelude.{ℕ, Bool, false, true, not, ◌&&◌, ◌||◌, ◌==◌, nat_le, List, [], ◌∷◌, codes, length, Option}
use Rattle.std.specs.Prelude.{None}
use Rattle.std.specs.Prelude.{Some, is_some, if◌then◌else◌}
use Rattle.std.specs.List.{list_any}
use Rattle.vc_value.specs.Decimals.{are_digits, number_of}
use Rattle.vc_value.specs.Words.{same_ignoring_case}
use Rattle.vc_http_heads.specs.declared.fields.Length.{Length}
use Rattle.vc_http_heads.specs.declared.fields.Length.TheVariants as lengths

-- a name, and the value without the spaces around it
abbrev pub Field : Type 0
Field = List ℕ × List ℕ

abbrev pub is_named : List ℕ → Field → Bool
is_named name field = same_ignoring_case field.0 name

-- the values of the fields of a name
abbrev pub values_named : List ℕ → List Field → List (List ℕ)
values_named name [] = []
values_named name (field ∷ fields) =
    if is_named name field then field.1 ∷ values_named name fields else values_named name fields

abbrev pub first_of : List (List ℕ) → Option (List ℕ)
first_of [] = None
first_of (value ∷ values) = Some value

abbrev pub has_field : List ℕ → List Field → Bool
has_field name fields = is_some (first_of (values_named name fields))

-- HTTP/1.1 wants exactly one Host
abbrev pub has_host : ℕ → List Field → Bool
has_host minor fields = (minor == 0) || (length (values_named (codes "host") fields) == 1)

-- a length is 1 to 9 digits, and stands once
abbrev pub is_length : List ℕ → Bool
is_length value = are_digits value && nat_le (length value) 9

abbrev pub length_among : List (List ℕ) → Length
length_among [] = lengths.Absent
length_among (value ∷ []) = if is_length value then lengths.Given (number_of value) else lengths.Bad
length_among (value ∷ other ∷ values) = lengths.Bad

abbrev pub length_in : List Field → Length
length_in fields = length_among (values_named (codes "content-length") fields)

abbrev pub is_bad : Length → Bool
is_bad lengths.Absent = false
is_bad (lengths.Given count) = false
is_bad lengths.Bad = true

abbrev pub given_in : Length → Option ℕ
given_in lengths.Absent = None
given_in (lengths.Given count) = Some count
given_in lengths.Bad = None

-- whether the connection goes on behind the message: not after HTTP/1.0, nor after a Connection that is `close`
abbrev pub is_close : List ℕ → Bool
is_close value = same_ignoring_case value (codes "close")

abbrev pub keeps : ℕ → List Field → Bool
keeps minor fields = not (minor == 0) && not (list_any is_close (values_named (codes "connection") fields))
