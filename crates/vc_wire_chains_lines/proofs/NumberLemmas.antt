-- How much of a text is left.
use Rattle.std.proofs.Common.{ℕ, suc, List, length}
use Rattle.std.specs.Prelude.{Option, None, Some}

-- how much of a text is left, if something is
abbrev pub room : Option (List ℕ) → ℕ
room None = 0
room (Some text) = suc (length text)
