-- What functions and operators make of numbers in millionths.
use Rattle.std.specs.Prelude.{ℤ, pos, ◌+ℤ◌, ◌-ℤ◌, neg_ℤ}
use Rattle.std.specs.Prelude.{unsigned_abs, Option, None, Some}
use Rattle.vc_value.specs.Millionths.{product, quotient, sign_of, trunc_of, floor_of, ceil_of, frac_of}
use Rattle.vc_plan.specs.declared.terms.Function.{Function}
use Rattle.vc_plan.specs.declared.terms.Function.TheVariants.{Negative, Abs, Sign, Trunc, Floor, Ceil, Frac}
use Rattle.vc_plan.specs.declared.terms.Operator.{Operator}
use Rattle.vc_plan.specs.declared.terms.Operator.TheVariants.{Plus, Minus, Times, Over}

-- the function's number
abbrev pub applied : Function → ℤ → ℤ
applied Negative z = neg_ℤ z
applied Abs z = pos (unsigned_abs z)
applied Sign z = sign_of z
applied Trunc z = trunc_of z
applied Floor z = floor_of z
applied Ceil z = ceil_of z
applied Frac z = frac_of z

-- what the operator makes of two numbers
abbrev pub operated : Operator → ℤ → ℤ → Option ℤ
operated Plus a b = Some (a +ℤ b)
operated Minus a b = Some (a -ℤ b)
operated Times a b = Some (product a b)
operated Over a b = quotient a b

-- the same where both are there
abbrev pub joined : Operator → Option ℤ → Option ℤ → Option ℤ
joined operator None b = None
joined operator (Some a) None = None
joined operator (Some a) (Some b) = operated operator a b
