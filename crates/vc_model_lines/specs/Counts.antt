-- The counts that stand in a line: versions, lengths, decimals, items.
use Rattle.std.specs.Prelude.{ℕ, Bool, ◌&&◌, ◌==◌, nat_le, List, length, Option, Some, None, if◌then◌else◌}
use Rattle.vc_value.specs.Decimals.{are_digits, number_of}

-- from the least to the most
abbrev pub is_between : ℕ → ℕ → ℕ → Bool
is_between least most count = nat_le least count && nat_le count most

-- the number that the word spells in digits, with leading zeros or without, if it is from the least to the most
abbrev pub count_in : ℕ → ℕ → List ℕ → Option ℕ
count_in least most word = if are_digits word
    && is_between least most (number_of word) then Some (number_of word) else None

-- the number of a bill line or an operation: four digits
abbrev pub item_number : List ℕ → Option ℕ
item_number word = if length word == 4 then count_in 0 9999 word else None
