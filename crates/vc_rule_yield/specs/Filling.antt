-- Lists of fixed room: where it is full nothing is added.
use Rattle.std.specs.Prelude.{ℕ, ◌+◌, nat_le, if◌then◌else◌, List, [], ◌++◌, length}

pub record Filled (A : Type 0) : Type 0 where
  pub items : List A
  pub room : ℕ

-- the list with these elements at its end, where there is room for all of them
abbrev pub with_items : {A : Type 0} → Filled A → List A → Filled A
with_items list more =
    if nat_le (length list.items + length more) list.room
    then record { items = list.items ++ more; room = list.room } else list

-- the same list without elements
abbrev pub emptied : {A : Type 0} → Filled A → Filled A
emptied list = record { items = []; room = list.room }
