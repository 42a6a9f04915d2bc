-- Numbers that wait, each once, with a flag for each number.
use Rattle.std.specs.Prelude.{◌≡◌, ◌≤◌, ℕ, Bool, false, not, ◌&&◌, nat_eq, nat_lt, if◌then◌else◌, List, [], ◌∷◌, ◌++◌}
use Rattle.std.specs.Prelude.{length, slice_index_or, take}
use Rattle.std.specs.List.{IsDistinct}
use Rattle.vc_base.specs.Sets.{has}
use Rattle.vc_rule_yield.specs.Filling.{Filled}

-- with the number as the last
abbrev pub with_last : Filled ℕ → ℕ → Filled ℕ
with_last list number = record { items = list.items ++ number ∷ []; room = list.room }

-- the same, where it is below the limit and doesn't wait yet
abbrev pub pushed : Filled ℕ → ℕ → Filled ℕ
pushed list number =
    if nat_lt number list.room && not (has nat_eq list.items number) then with_last list number else list

-- the flags mark just the numbers that wait, each of which waits once
pub record IsMarked (flags : List Bool) (stack : Filled ℕ) : Type 0 where
  pub long : length flags ≡ stack.room
  pub marks : (number : ℕ) → slice_index_or flags number false ≡ has nat_eq stack.items number
  pub once : IsDistinct nat_eq stack.items

-- the first of so many places have the numbers that wait; the flags mark just these, and there are no more than places
abbrev pub stack_in : List ℕ → ℕ → Filled ℕ
stack_in places count = record { items = take count places; room = length places }

pub record IsStacked (flags : List Bool) (places : List ℕ) (count : ℕ) : Type 0 where
  pub marked : IsMarked flags (stack_in places count)
  pub fits : count ≤ length places
