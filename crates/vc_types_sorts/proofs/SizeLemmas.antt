-- Bounds of what is joined or applied.
use Rattle.std.proofs.Common.{◌≡◌, ℕ, Bool, true, false, ◌||◌, refl, Option, Some, None}
use Rattle.vc_syntax_tree.specs.declared.Function.{Function}
use Rattle.vc_syntax_tree.specs.declared.Operator.{Operator}
use Rattle.vc_types.specs.RangeFaults.{applied_size, combined_load, combined_size, is_too_large}
use Rattle.vc_types_sorts.specs.Sizes.{bounded, combined_bound, applied_bound}

or_false : (a : Bool) (n : ℕ) → bounded a n ≡ bounded (a || false) n
or_false true n = refl
or_false false n = refl

or_true : (a b : Bool) (n : ℕ) → None ≡ bounded (a || (true || b)) n
or_true true b n = refl
or_true false b n = refl

or_second : (a : Bool) (n : ℕ) → None ≡ bounded (a || (false || true)) n
or_second true n = refl
or_second false n = refl

pub combined_join : (operator : Operator) (a b : Bool) (m n : ℕ) → combined_bound operator (bounded a m) (bounded b n)
    ≡ bounded ((is_too_large (combined_load operator m n) || is_too_large (combined_size operator m n)) || (a || b))
    (combined_size operator m n)
combined_join operator false false m n =
    or_false (is_too_large (combined_load operator m n) || is_too_large (combined_size operator m n))
    (combined_size operator m n)
combined_join operator false true m n =
    or_second (is_too_large (combined_load operator m n) || is_too_large (combined_size operator m n))
    (combined_size operator m n)
combined_join operator true b m n =
    or_true (is_too_large (combined_load operator m n) || is_too_large (combined_size operator m n)) b
    (combined_size operator m n)

or_last : (a : Bool) (n : ℕ) → None ≡ bounded (a || true) n
or_last true n = refl
or_last false n = refl

pub applied_join : (function : Function) (a : Bool) (n : ℕ) → applied_bound function (bounded a n)
    ≡ bounded (is_too_large (applied_size function n) || a) (applied_size function n)
applied_join function false n = or_false (is_too_large (applied_size function n)) (applied_size function n)
applied_join function true n = or_last (is_too_large (applied_size function n)) (applied_size function n)

pub ruleset bounds = (combined_join, applied_join)
