-- How large the numbers of terms get.
use Rattle.std.specs.Prelude.{ℕ, ◌+◌, ◌-◌, ◌*◌, ◌/◌, ◌^◌, max, Bool, true, ◌&&◌, nat_le, unsigned_abs, slice_get}
use Rattle.std.specs.Prelude.{Option, None, Some}
use Rattle.vc_value.specs.declared.grains.Grain.{Grain}
use Rattle.vc_value.specs.declared.table_header.Domain.{Domain}
use Rattle.vc_value.specs.declared.table_header.Domain.TheVariants.{Texts, Nums}
use Rattle.vc_value.specs.declared.value.Value.{Value}
use Rattle.vc_value.specs.declared.value.Value.TheVariants.{Text, Num}
use Rattle.vc_value.specs.Millionths.{one}
use Rattle.vc_plan.specs.declared.conditions.Condition.{Condition}
use Rattle.vc_plan.specs.declared.conditions.Condition.TheVariants.{Always, Compared, IsIn, Specified, Holds, Filled}
use Rattle.vc_plan.specs.declared.conditions.Condition.TheVariants.{Not', And', Or'}
use Rattle.vc_plan.specs.declared.plans.Plan.{Plan}
use Rattle.vc_plan.specs.declared.terms.Function.{Function}
use Rattle.vc_plan.specs.declared.terms.Function.TheVariants.{Negative, Abs, Sign, Trunc, Floor, Ceil, Frac}
use Rattle.vc_plan.specs.declared.terms.Operator.{Operator}
use Rattle.vc_plan.specs.declared.terms.Operator.TheVariants.{Plus, Minus, Times, Over}
use Rattle.vc_plan.specs.declared.terms.Term.{Term}
use Rattle.vc_plan.specs.declared.terms.Term.TheVariants.{Literal, Read, PartSum, PartCount, Applied', Joined'}
use Rattle.vc_plan.specs.Bounds.{greatest}
use Rattle.vc_plan.specs.Domains.{domain_of}

-- the largest size of a number that a domain has
abbrev pub grain_size : Grain → ℕ
grain_size grain = max (unsigned_abs grain.low.millionths) (unsigned_abs grain.high.millionths)

abbrev pub domain_size : Option Domain → ℕ
domain_size None = 0
domain_size (Some (Texts texts)) = 0
domain_size (Some (Nums decimals grains)) = greatest grain_size grains

abbrev pub value_size : Value → ℕ
value_size (Text t) = 0
value_size (Num a) = unsigned_abs a.millionths

abbrev pub applied_size : Function → ℕ → ℕ
applied_size Negative n = n
applied_size Abs n = n
applied_size Sign n = one
applied_size Trunc n = n
applied_size Floor n = n + one
applied_size Ceil n = n + one
applied_size Frac n = one

-- what the size of a join is computed from, and the size
abbrev pub joined_load : Operator → ℕ → ℕ → ℕ
joined_load Plus m n = m + n
joined_load Minus m n = m + n
joined_load Times m n = m * n
joined_load Over m n = one * m

abbrev pub joined_size : Operator → ℕ → ℕ → ℕ
joined_size Plus m n = m + n
joined_size Minus m n = m + n
joined_size Times m n = m * n / one + 1
joined_size Over m n = one * m

-- the size that a term's number has at most, in millionths
abbrev pub term_size : Plan → Term → ℕ
term_size plan (Literal a) = value_size a
term_size plan (Read v) = domain_size (domain_of plan (slice_get plan.vars v))
term_size plan (PartSum slot characteristic) = 10 ^ 27
term_size plan (PartCount slot) = 10 ^ 27
term_size plan (Applied' function p a) = applied_size function (term_size plan a)
term_size plan (Joined' operator p a q b) = joined_size operator (term_size plan a) (term_size plan b)

-- the size that each step of a computation has at most
abbrev pub size_limit : ℕ
size_limit = 10 ^ 36 - 10 ^ 6

abbrev pub is_small : Plan → Term → Bool
is_small plan (Literal a) = true
is_small plan (Read v) = true
is_small plan (PartSum slot characteristic) = true
is_small plan (PartCount slot) = true
is_small plan (Applied' function p a) = nat_le (applied_size function (term_size plan a)) size_limit && is_small plan a
is_small plan (Joined' operator p a q b) =
    (nat_le (joined_load operator (term_size plan a) (term_size plan b)) size_limit
    && nat_le (joined_size operator (term_size plan a) (term_size plan b)) size_limit)
    && (is_small plan a && is_small plan b)

abbrev pub condition_small : Plan → Condition → Bool
condition_small plan Always = true
condition_small plan (Compared r a b) = is_small plan a && is_small plan b
condition_small plan (IsIn v pieces) = true
condition_small plan (Specified v) = true
condition_small plan (Holds set text) = true
condition_small plan (Filled set) = true
condition_small plan (Not' p c) = condition_small plan c
condition_small plan (And' p c q d) = condition_small plan c && condition_small plan d
condition_small plan (Or' p c q d) = condition_small plan c && condition_small plan d
