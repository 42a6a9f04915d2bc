-- Triggers: the one value of one variable without which a rule says nothing.
use Rattle.std.specs.Prelude.{◌≡◌, ℕ, Bool, true, false, List, Option, None, Some, slice_get}
use Rattle.vc_base.specs.Sets.{has}
use Rattle.vc_value.specs.declared.value.Value.{Value}
use Rattle.vc_plan.specs.declared.atoms.Atom.{Atom}
use Rattle.vc_plan.specs.declared.atoms.Atom.TheVariants.{Is}
use Rattle.vc_plan.specs.declared.conditions.Condition.{Condition}
use Rattle.vc_plan.specs.declared.conditions.Condition.TheVariants.{Always, Compared, IsIn, Specified, Holds, Filled}
use Rattle.vc_plan.specs.declared.conditions.Condition.TheVariants.{Not', And', Or'}
use Rattle.vc_plan.specs.declared.conditions.Relation.{Relation}
use Rattle.vc_plan.specs.declared.conditions.Relation.TheVariants.{Equal, Unequal, Less, AtMost, Greater, AtLeast}
use Rattle.vc_plan.specs.declared.plans.Plan.{Plan}
use Rattle.vc_plan.specs.declared.rules.Rule.{Rule}
use Rattle.vc_plan.specs.declared.terms.Term.{Term}
use Rattle.vc_plan.specs.declared.terms.Term.TheVariants.{Literal, Read, PartSum, PartCount, Applied', Joined'}
use Rattle.vc_plan.specs.Answers.{nothing}
use Rattle.vc_plan.specs.Gives.{Giver, by_rule, by_user, by_entry, gives}
use Rattle.vc_plan.specs.Seen.{same_atom, seen_of}
use Rattle.vc_plan.specs.Sources.{Sources}
use Rattle.vc_net_laws.specs.declared.triggers.Trigger.{Trigger}

-- a literal, or a variable, that is to equal a term: a trigger where the other is a variable, or a literal
abbrev pub literal_equals : Value → Term → Option Trigger
literal_equals a (Literal b) = None
literal_equals a (Read v) = Some (record { var = v; value = a })
literal_equals a (PartSum slot characteristic) = None
literal_equals a (PartCount slot) = None
literal_equals a (Applied' function p b) = None
literal_equals a (Joined' operator p b q c) = None

abbrev pub variable_equals : ℕ → Term → Option Trigger
variable_equals v (Literal a) = Some (record { var = v; value = a })
variable_equals v (Read w) = None
variable_equals v (PartSum slot characteristic) = None
variable_equals v (PartCount slot) = None
variable_equals v (Applied' function p b) = None
variable_equals v (Joined' operator p b q c) = None

abbrev pub trigger_of_sides : Term → Term → Option Trigger
trigger_of_sides (Literal a) other = literal_equals a other
trigger_of_sides (Read v) other = variable_equals v other
trigger_of_sides (PartSum slot characteristic) other = None
trigger_of_sides (PartCount slot) other = None
trigger_of_sides (Applied' function p b) other = None
trigger_of_sides (Joined' operator p b q c) other = None

abbrev pub trigger_of_relation : Relation → Term → Term → Option Trigger
trigger_of_relation Equal a b = trigger_of_sides a b
trigger_of_relation Unequal a b = None
trigger_of_relation Less a b = None
trigger_of_relation AtMost a b = None
trigger_of_relation Greater a b = None
trigger_of_relation AtLeast a b = None

-- the first that is there
abbrev pub first_trigger : Option Trigger → Option Trigger → Option Trigger
first_trigger None other = other
first_trigger (Some trigger) other = Some trigger

-- the first part of a condition, joined to the others by AND, that says that a variable equals a literal
abbrev pub trigger_in : Condition → Option Trigger
trigger_in Always = None
trigger_in (Compared r a b) = trigger_of_relation r a b
trigger_in (IsIn v pieces) = None
trigger_in (Specified v) = None
trigger_in (Holds set text) = None
trigger_in (Filled set) = None
trigger_in (Not' p c) = None
trigger_in (And' p c q d) = first_trigger (trigger_in c) (trigger_in d)
trigger_in (Or' p c q d) = None

abbrev pub trigger_of_condition : Option Condition → Option Trigger
trigger_of_condition None = None
trigger_of_condition (Some c) = trigger_in c

-- the trigger of a rule, if it has one, and of a giver: sources have none
abbrev pub trigger_of : Plan → Rule → Option Trigger
trigger_of plan rule = trigger_of_condition (slice_get plan.conditions rule.condition)

abbrev pub trigger_in_rule : Plan → Option Rule → Option Trigger
trigger_in_rule plan None = None
trigger_in_rule plan (Some rule) = trigger_of plan rule

abbrev pub trigger_by : Plan → Giver → Option Trigger
trigger_by plan (by_rule r) = trigger_in_rule plan (slice_get plan.rules r)
trigger_by plan (by_user v) = None
trigger_by plan (by_entry v) = None

-- whether the set has the trigger's value, where there is a trigger
abbrev pub stands_in : List Atom → Option Trigger → Bool
stands_in set None = true
stands_in set (Some trigger) = has same_atom set (Is trigger.var trigger.value)

-- a giver whose trigger doesn't stand gives nothing
abbrev pub TriggersAreNeeded : Type 0
TriggersAreNeeded = (plan : Plan) (sources : Sources) (set : List Atom) (giver : Giver)
    → stands_in set (trigger_by plan giver) ≡ false → gives plan sources giver (seen_of set) ≡ nothing
