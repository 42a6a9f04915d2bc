-- What a net may ask, and where part sums stand.
use Rattle.std.specs.Prelude.{Bool, true, false, not, ◌&&◌, ◌||◌}
use Rattle.vc_plan.specs.declared.conditions.Condition.{Condition}
use Rattle.vc_plan.specs.declared.conditions.Condition.TheVariants.{Always, Compared, IsIn, Specified, Holds, Filled}
use Rattle.vc_plan.specs.declared.conditions.Condition.TheVariants.{Not', And', Or'}
use Rattle.vc_plan.specs.declared.terms.Term.{Term}
use Rattle.vc_plan.specs.declared.terms.Term.TheVariants.{Literal, Read, PartSum, PartCount, Applied', Joined'}

-- whether a term has a part sum
abbrev pub has_part_sum : Term → Bool
has_part_sum (Literal a) = false
has_part_sum (Read v) = false
has_part_sum (PartSum slot characteristic) = true
has_part_sum (PartCount slot) = true
has_part_sum (Applied' function p a) = has_part_sum a
has_part_sum (Joined' operator p a q b) = has_part_sum a || has_part_sum b

abbrev pub condition_sums : Condition → Bool
condition_sums Always = false
condition_sums (Compared r a b) = has_part_sum a || has_part_sum b
condition_sums (IsIn v pieces) = false
condition_sums (Specified v) = false
condition_sums (Holds set text) = false
condition_sums (Filled set) = false
condition_sums (Not' p c) = condition_sums c
condition_sums (And' p c q d) = condition_sums c || condition_sums d
condition_sums (Or' p c q d) = condition_sums c || condition_sums d

-- whether a condition asks SPECIFIED
abbrev pub asks_specified : Condition → Bool
asks_specified Always = false
asks_specified (Compared r a b) = false
asks_specified (IsIn v pieces) = false
asks_specified (Specified v) = true
asks_specified (Holds set text) = false
asks_specified (Filled set) = true
asks_specified (Not' p c) = asks_specified c
asks_specified (And' p c q d) = asks_specified c || asks_specified d
asks_specified (Or' p c q d) = asks_specified c || asks_specified d

-- what a net may ask: no set, and SPECIFIED under no NOT, since what isn't known may become known
abbrev pub is_for_nets : Condition → Bool
is_for_nets Always = true
is_for_nets (Compared r a b) = true
is_for_nets (IsIn v pieces) = true
is_for_nets (Specified v) = true
is_for_nets (Holds set text) = false
is_for_nets (Filled set) = false
is_for_nets (Not' p c) = not (asks_specified c) && is_for_nets c
is_for_nets (And' p c q d) = is_for_nets c && is_for_nets d
is_for_nets (Or' p c q d) = is_for_nets c && is_for_nets d
