-- Numbers that ascend.
use Rattle.std.specs.Prelude.{◌≤◌, ◌<◌, ℕ, List, get_or, length}

abbrev pub IsRising : List ℕ → Type 0
IsRising numbers = (i j : ℕ) → i ≤ j → j < length numbers → get_or numbers i 0 ≤ get_or numbers j 0
