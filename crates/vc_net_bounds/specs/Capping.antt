-- Numbers that are told apart as far as the cells of a plan are counted.
use Rattle.std.specs.Prelude.{ℕ, min}

-- the most cells that a plan may need
abbrev pub most_cells : ℕ
most_cells = 500_000

-- the number; one more than the most cells where it is greater than they are
abbrev pub capped : ℕ → ℕ
capped n = min n 500_001
