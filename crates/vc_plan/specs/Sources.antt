-- Where values come from: the user, and what statements wrote.
use Rattle.std.specs.Prelude.{ℕ, List, Option, None, slice_index_or}
use Rattle.vc_value.specs.declared.value.Value.{Value}
use Rattle.vc_plan.specs.declared.atoms.Mark.{Mark}

-- what a statement of a procedure wrote to a variable
pub record Entry : Type 0 where
  pub mark : Mark
  pub procedure : ℕ
  pub statement : ℕ

-- of each variable the user's value, and the entry that was written, if there is one
pub record Sources : Type 0 where
  pub user : List (Option Value)
  pub written : List (Option Entry)

-- the user's value of a variable, and its entry
abbrev pub user_of : Sources → ℕ → Option Value
user_of sources v = slice_index_or sources.user v None

abbrev pub entry_of : Sources → ℕ → Option Entry
entry_of sources v = slice_index_or sources.written v None
