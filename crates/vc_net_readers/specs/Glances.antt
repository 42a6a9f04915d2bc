-- What is told of a rule at a glance: what it waits for, and what it says.
use Rattle.std.specs.Prelude.{ℕ, Bool, false, ◌==◌, nat_lt, if◌then◌else◌, List, length, map, slice_get, Option}
use Rattle.std.specs.Prelude.{None, Some}
use Rattle.vc_value.specs.declared.value.Value.{Value}
use Rattle.vc_value.specs.declared.value.Value.TheVariants.{Text, Num}
use Rattle.vc_plan.specs.declared.conditions.Relation.{Relation}
use Rattle.vc_plan.specs.declared.conditions.Relation.TheVariants.{Equal, Unequal, Less, AtMost, Greater, AtLeast}
use Rattle.vc_plan.specs.declared.plans.Plan.{Plan}
use Rattle.vc_plan.specs.declared.rules.Kind.{Kind}
use Rattle.vc_plan.specs.declared.rules.Kind.TheVariants.{Among, Compare, Equate, ByTable, Never, Last, Line}
use Rattle.vc_plan.specs.declared.rules.Restriction.{Restriction}
use Rattle.vc_plan.specs.declared.rules.Restriction.TheVariants.{Against, OneOf}
use Rattle.vc_plan.specs.declared.rules.Rule.{Rule}
use Rattle.vc_plan.specs.Domains.{count_of, is_restrictable, numbers_below}
use Rattle.vc_plan.specs.Gives.{by_rule}
use Rattle.vc_net_laws.specs.declared.triggers.Trigger.{Trigger}
use Rattle.vc_net_laws.specs.Triggers.{trigger_by}
use Rattle.vc_net_readers.specs.declared.glances.Glance.{Glance}
use Rattle.vc_net_readers.specs.declared.glances.Hint.{Hint}
use Rattle.vc_net_readers.specs.declared.glances.Hint.TheVariants.{GivesText, IsLast, Untold}

-- a text that is asked for by itself, of a variable that isn't restrictable
abbrev pub hint_of_value : Plan → ℕ → Value → Hint
hint_of_value plan v (Text t) = if is_restrictable plan v then Untold else GivesText v t
hint_of_value plan v (Num n) = Untold

abbrev pub hint_against : Plan → ℕ → Relation → Value → Hint
hint_against plan v Equal a = hint_of_value plan v a
hint_against plan v Unequal a = Untold
hint_against plan v Less a = Untold
hint_against plan v AtMost a = Untold
hint_against plan v Greater a = Untold
hint_against plan v AtLeast a = Untold

abbrev pub hint_among : Plan → ℕ → Restriction → Hint
hint_among plan v (Against r a) = hint_against plan v r a
hint_among plan v (OneOf pieces) = Untold

-- what a rule says, as far as it is told at a glance
abbrev pub hint_in : Plan → Kind → Hint
hint_in plan (Among v restriction) = hint_among plan v restriction
hint_in plan (Compare r a b) = Untold
hint_in plan (Equate a b) = Untold
hint_in plan (ByTable table columns) = Untold
hint_in plan Never = Untold
hint_in plan (Last v) = IsLast v (nat_lt 1 (count_of plan v))
hint_in plan (Line i) = Untold

abbrev pub hint_in_rule : Plan → Option Rule → Hint
hint_in_rule plan None = Untold
hint_in_rule plan (Some rule) = hint_in plan rule.kind

abbrev pub hint_by : Plan → ℕ → Hint
hint_by plan r = hint_in_rule plan (slice_get plan.rules r)

-- what is told of the rule of a number, and of each rule
abbrev pub glance_by : Plan → ℕ → Glance
glance_by plan r = record { trigger = trigger_by plan (by_rule r); hint = hint_by plan r }

abbrev pub glances_of : Plan → List Glance
glances_of plan = map (glance_by plan) (numbers_below (length plan.rules))

abbrev pub trigger_told : Glance → Option Trigger
trigger_told glance = glance.trigger

-- that of a number: nothing is told of a rule that isn't there
abbrev pub glance_or_none : Option Glance → Glance
glance_or_none None = record { trigger = None; hint = Untold }
glance_or_none (Some glance) = glance

abbrev pub glance_at : List Glance → ℕ → Glance
glance_at glances r = glance_or_none (slice_get glances r)

-- whether it is told that a rule gives the variable a text
abbrev pub gives_text_to : ℕ → Hint → Bool
gives_text_to v (GivesText w t) = v == w
gives_text_to v (IsLast w has_two) = false
gives_text_to v Untold = false
