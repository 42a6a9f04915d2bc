-- That values, slots, variables, terms and conditions name things that the plan has.
use Rattle.std.specs.Prelude.{ℕ, ◌^◌, Bool, true, ◌&&◌, nat_lt, nat_le, unsigned_abs, List, length, Option, None, Some}
use Rattle.std.specs.List.{list_all}
use Rattle.vc_value.specs.declared.decimal.Dec.{Dec}
use Rattle.vc_value.specs.declared.grains.Grain.{Grain}
use Rattle.vc_value.specs.declared.table_header.Domain.{Domain}
use Rattle.vc_value.specs.declared.table_header.Domain.TheVariants.{Texts, Nums}
use Rattle.vc_value.specs.declared.value.Value.{Value}
use Rattle.vc_value.specs.declared.value.Value.TheVariants.{Text, Num}
use Rattle.vc_plan.specs.declared.conditions.Condition.{Condition}
use Rattle.vc_plan.specs.declared.conditions.Condition.TheVariants.{Always, Compared, IsIn, Specified, Holds, Filled}
use Rattle.vc_plan.specs.declared.conditions.Condition.TheVariants.{Not', And', Or'}
use Rattle.vc_plan.specs.declared.conditions.Piece.{Piece}
use Rattle.vc_plan.specs.declared.conditions.Piece.TheVariants.{OneText, Stretch}
use Rattle.vc_plan.specs.declared.plans.Characteristic.{Characteristic}
use Rattle.vc_plan.specs.declared.plans.Object.{Object}
use Rattle.vc_plan.specs.declared.plans.Plan.{Plan}
use Rattle.vc_plan.specs.declared.plans.Slot.{Slot}
use Rattle.vc_plan.specs.declared.plans.TextSet.{TextSet}
use Rattle.vc_plan.specs.declared.plans.Var as variable
use Rattle.vc_plan.specs.declared.terms.Term.{Term}
use Rattle.vc_plan.specs.declared.terms.Term.TheVariants.{Literal, Read, PartSum, PartCount, Applied', Joined'}

-- whether the list has an element of this number
abbrev pub is_of : {X : Type 0} → List X → ℕ → Bool
is_of xs i = nat_lt i (length xs)

abbrev pub is_of_if : {X : Type 0} → List X → Option ℕ → Bool
is_of_if xs None = true
is_of_if xs (Some i) = is_of xs i

-- a number of at most nine digits before the point
abbrev pub is_stored : Dec → Bool
is_stored a = nat_lt (unsigned_abs a.millionths) (10 ^ 15)

abbrev pub value_there : Plan → Value → Bool
value_there plan (Text t) = is_of plan.texts t
value_there plan (Num a) = is_stored a

abbrev pub piece_there : Plan → Piece → Bool
piece_there plan (OneText t) = is_of plan.texts t
piece_there plan (Stretch grain) = is_stored grain.low && is_stored grain.high

abbrev pub grain_there : Grain → Bool
grain_there grain = is_stored grain.low && is_stored grain.high

abbrev pub domain_there : Plan → Domain → Bool
domain_there plan (Texts texts) = list_all (is_of plan.texts) texts
domain_there plan (Nums decimals grains) = nat_le decimals 6 && list_all grain_there grains

abbrev pub characteristic_there : Plan → Characteristic → Bool
characteristic_there plan characteristic = domain_there plan characteristic.list

abbrev pub object_there : Plan → Object → Bool
object_there plan object = list_all (is_of plan.characteristics) object.characteristics

abbrev pub slot_there : Plan → Slot → Bool
slot_there plan slot = is_of_if plan.slots slot.parent && is_of plan.objects slot.object

abbrev pub var_there : Plan → variable.Var → Bool
var_there plan x = is_of plan.slots x.slot
    && (is_of plan.characteristics x.characteristic && is_of plan.domains x.domain)

abbrev pub set_there : Plan → TextSet → Bool
set_there plan x = is_of plan.slots x.slot
    && (is_of plan.characteristics x.characteristic && is_of plan.domains x.domain)

abbrev pub term_there : Plan → Term → Bool
term_there plan (Literal a) = value_there plan a
term_there plan (Read v) = is_of plan.vars v
term_there plan (PartSum slot characteristic) = is_of plan.slots slot && is_of plan.characteristics characteristic
term_there plan (PartCount slot) = is_of plan.slots slot
term_there plan (Applied' function p a) = term_there plan a
term_there plan (Joined' operator p a q b) = term_there plan a && term_there plan b

abbrev pub condition_there : Plan → Condition → Bool
condition_there plan Always = true
condition_there plan (Compared r a b) = term_there plan a && term_there plan b
condition_there plan (IsIn v pieces) = is_of plan.vars v && list_all (piece_there plan) pieces
condition_there plan (Specified v) = is_of plan.vars v
condition_there plan (Holds set text) = is_of plan.sets set && is_of plan.texts text
condition_there plan (Filled set) = is_of plan.sets set
condition_there plan (Not' p c) = condition_there plan c
condition_there plan (And' p c q d) = condition_there plan c && condition_there plan d
condition_there plan (Or' p c q d) = condition_there plan c && condition_there plan d
