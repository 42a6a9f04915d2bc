-- Rows that are given up are possible but for no variable.
use Rattle.std.specs.Prelude.{ℕ, suc, Bool, nat_lt, if◌then◌else◌, List, [], ◌∷◌, length}
use Rattle.vc_plan.specs.declared.rules.Binding.{Binding}
use Rattle.vc_rule_yield.specs.declared.scratch.Note.{Note}

abbrev pub is_given_up : List Binding → Note → Bool
is_given_up columns note = nat_lt note.second (length columns)

-- how many are given up before the first that isn't
abbrev pub given_up : List Binding → List Note → ℕ
given_up columns [] = 0
given_up columns (note ∷ notes) = if is_given_up columns note then suc (given_up columns notes) else 0
