-- Sizes, where a number on the way may get too large.
use Rattle.std.specs.Prelude.{ℕ, Bool, ◌||◌, Option, Some, None, if◌then◌else◌}
use Rattle.vc_syntax_tree.specs.declared.Function.{Function}
use Rattle.vc_syntax_tree.specs.declared.Operator.{Operator}
use Rattle.vc_types.specs.RangeFaults.{applied_size, combined_load, combined_size, is_too_large}

-- a size, unless a number on the way gets too large
abbrev pub bounded : Bool → ℕ → Option ℕ
bounded too_large size = if too_large then None else Some size

-- the bound of a join, and of a function's number
abbrev pub combined_bound : Operator → Option ℕ → Option ℕ → Option ℕ
combined_bound operator (Some m) (Some n) =
    bounded (is_too_large (combined_load operator m n) || is_too_large (combined_size operator m n))
    (combined_size operator m n)
combined_bound operator (Some m) None = None
combined_bound operator None right = None

abbrev pub applied_bound : Function → Option ℕ → Option ℕ
applied_bound function None = None
applied_bound function (Some n) = bounded (is_too_large (applied_size function n)) (applied_size function n)
