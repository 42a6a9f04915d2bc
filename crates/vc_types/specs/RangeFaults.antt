-- Faults of range: numbers that may get too large to be computed.
use Rattle.std.specs.Prelude.{ℕ, ◌+◌, ◌-◌, ◌*◌, ◌/◌, ◌^◌, max, Bool, false, not, ◌||◌, List, [], ◌∷◌, nat_le}
use Rattle.std.specs.Prelude.{unsigned_abs, slice_get, Option, Some, None}
use Rattle.std.specs.List.{list_any}
use Rattle.vc_value.specs.Millionths.{one}
use Rattle.vc_model_parts.specs.declared.parts.Characteristic.{Characteristic}
use Rattle.vc_model_parts.specs.declared.parts.Model.{Model}
use Rattle.vc_model_parts.specs.declared.parts.NumberValue.{NumberValue}
use Rattle.vc_model_parts.specs.declared.parts.Values.{Values}
use Rattle.vc_model_parts.specs.declared.parts.Values.TheVariants as values
use Rattle.vc_syntax_tree.specs.declared.Function.{Function}
use Rattle.vc_syntax_tree.specs.declared.Function.TheVariants.{Abs, Sign, Trunc, Floor, Ceil, Frac}
use Rattle.vc_syntax_tree.specs.declared.Operator.{Operator}
use Rattle.vc_syntax_tree.specs.declared.Operator.TheVariants.{Plus, Minus, Times, Over}
use Rattle.vc_syntax_tree.specs.Trees.{Term, Number, Text, Operand, Negated, Combined, Applied, SumOfParts}
use Rattle.vc_syntax_tree.specs.Trees.{CountOfParts, Dependency}
use Rattle.vc_types.specs.Occurrences.{terms_in}
use Rattle.vc_types.specs.Settings.{Setting, meaning}
use Rattle.vc_types.specs.declared.meaning.Meaning.{Meaning}
use Rattle.vc_types.specs.declared.meaning.Meaning.TheVariants as meanings

-- the largest size of a number of a list, in millionths
abbrev pub value_size : NumberValue → ℕ
value_size value = max (unsigned_abs value.low.millionths) (unsigned_abs value.high.millionths)

abbrev pub largest : List NumberValue → ℕ
largest [] = 0
largest (value ∷ listed) = max (value_size value) (largest listed)

abbrev pub size_of_values : Values → ℕ
size_of_values (values.Texts length multiple listed) = 0
size_of_values (values.Numbers decimals unit listed) = largest listed

abbrev pub size_in : Option Characteristic → ℕ
size_in None = 0
size_in (Some c) = size_of_values c.values

abbrev pub size_meant : Model → Meaning → ℕ
size_meant model (meanings.Characteristic c) = size_in (slice_get model.characteristics c)
size_meant model meaning = 0

-- the size that a function's number has at most, and that of a join
abbrev pub applied_size : Function → ℕ → ℕ
applied_size Abs n = n
applied_size Sign n = one
applied_size Trunc n = n
applied_size Floor n = n + one
applied_size Ceil n = n + one
applied_size Frac n = one

abbrev pub combined_size : Operator → ℕ → ℕ → ℕ
combined_size Plus m n = m + n
combined_size Minus m n = m + n
combined_size Times m n = m * n / one + 1
combined_size Over m n = one * m

-- what is computed on the way: the product before it is divided, the quotient's dividend
abbrev pub combined_load : Operator → ℕ → ℕ → ℕ
combined_load Plus m n = m + n
combined_load Minus m n = m + n
combined_load Times m n = m * n
combined_load Over m n = one * m

abbrev pub size_of : Setting → Term → ℕ
size_of setting (Number leaf) = unsigned_abs leaf.number.millionths
size_of setting (Text leaf) = 0
size_of setting (Operand operand) = size_meant setting.model (meaning setting operand)
size_of setting (Negated term) = size_of setting term
size_of setting (Combined left operator right) = combined_size operator (size_of setting left) (size_of setting right)
size_of setting (Applied function term) = applied_size function (size_of setting term)
size_of setting (SumOfParts name) = 10 ^ 27
size_of setting CountOfParts = 10 ^ 27

-- what every number on the way keeps below
abbrev pub size_limit : ℕ
size_limit = 10 ^ 36 - 10 ^ 6

abbrev pub is_too_large : ℕ → Bool
is_too_large n = not (nat_le n size_limit)

abbrev pub gets_too_large : Setting → Term → Bool
gets_too_large setting (Number leaf) = false
gets_too_large setting (Text leaf) = false
gets_too_large setting (Operand operand) = false
gets_too_large setting (Negated term) = gets_too_large setting term
gets_too_large setting (Combined left operator right) =
    (is_too_large (combined_load operator (size_of setting left) (size_of setting right))
    || is_too_large (combined_size operator (size_of setting left) (size_of setting right)))
    || (gets_too_large setting left || gets_too_large setting right)
gets_too_large setting (Applied function term) = is_too_large (applied_size function (size_of setting term))
    || gets_too_large setting term
gets_too_large setting (SumOfParts name) = false
gets_too_large setting CountOfParts = false

abbrev pub range_too_wide : Setting → Dependency → Bool
range_too_wide setting dependency = list_any (gets_too_large setting) (terms_in dependency)
