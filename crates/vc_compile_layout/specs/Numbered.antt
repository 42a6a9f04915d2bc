-- Numbers by slot and characteristic, as a function.
use Rattle.std.specs.Prelude.{ℕ, Bool, ◌&&◌, ◌==◌, Option}
use Rattle.std.specs.Map.{lookup}
use Rattle.vc_compile_layout.specs.declared.numbers.Numbers.{Numbers}

-- the number of what has this characteristic at this slot
abbrev pub number_of : Numbers → ℕ → ℕ → Option ℕ
number_of numbers i c = lookup (λ spot. (i == spot.slot) && (c == spot.characteristic)) numbers.met.entries
