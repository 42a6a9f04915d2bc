-- What sums over parts may add: numbers of parts that there are.
use Rattle.std.specs.Prelude.{ℕ, Bool, true, ◌&&◌, ◌==◌, slice_get}
use Rattle.std.specs.List.{list_any}
use Rattle.vc_plan.specs.declared.conditions.Condition.{Condition}
use Rattle.vc_plan.specs.declared.conditions.Condition.TheVariants.{Always, Compared, IsIn, Specified, Holds, Filled}
use Rattle.vc_plan.specs.declared.conditions.Condition.TheVariants.{Not', And', Or'}
use Rattle.vc_plan.specs.declared.plans.Plan.{Plan}
use Rattle.vc_plan.specs.declared.plans.Var.{Var}
use Rattle.vc_plan.specs.declared.terms.Term.{Term}
use Rattle.vc_plan.specs.declared.terms.Term.TheVariants.{Literal, Read, PartSum, PartCount, Applied', Joined'}
use Rattle.vc_plan.specs.Orders.{is_number}
use Rattle.vc_plan.specs.Seen.{parent_in}
use Rattle.vc_plan.specs.Typing.{has_numbers}

-- whether a part of the slot has a number for the characteristic
abbrev pub is_part_number : Plan → ℕ → ℕ → Var → Bool
is_part_number plan i c x =
    (x.characteristic == c)
    && (is_number i (parent_in (slice_get plan.slots x.slot)) && has_numbers (slice_get plan.domains x.domain))

abbrev pub sums_numbers : Plan → Term → Bool
sums_numbers plan (Literal a) = true
sums_numbers plan (Read v) = true
sums_numbers plan (PartSum slot characteristic) = list_any (is_part_number plan slot characteristic) plan.vars
sums_numbers plan (PartCount slot) = true
sums_numbers plan (Applied' function p a) = sums_numbers plan a
sums_numbers plan (Joined' operator p a q b) = sums_numbers plan a && sums_numbers plan b

abbrev pub condition_sums_numbers : Plan → Condition → Bool
condition_sums_numbers plan Always = true
condition_sums_numbers plan (Compared r a b) = sums_numbers plan a && sums_numbers plan b
condition_sums_numbers plan (IsIn v pieces) = true
condition_sums_numbers plan (Specified v) = true
condition_sums_numbers plan (Holds set text) = true
condition_sums_numbers plan (Filled set) = true
condition_sums_numbers plan (Not' p c) = condition_sums_numbers plan c
condition_sums_numbers plan (And' p c q d) = condition_sums_numbers plan c && condition_sums_numbers plan d
condition_sums_numbers plan (Or' p c q d) = condition_sums_numbers plan c && condition_sums_numbers plan d
