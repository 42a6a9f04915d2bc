-- Whom an atom wakes when it has come.
use Rattle.std.specs.Prelude.{ℕ, zero, suc, Bool, true, false, not, ◌&&◌, ◌||◌, ◌==◌, if◌then◌else◌, List, [], ◌∷◌}
use Rattle.std.specs.Prelude.{◌++◌, is_some, length, map, slice_get, Option, None, Some}
use Rattle.std.specs.List.{filter}
use Rattle.vc_value.specs.declared.value.Value.TheVariants.{Text}
use Rattle.vc_plan.specs.declared.plans.Plan.{Plan}
use Rattle.vc_plan.specs.Gives.{Giver, by_entry, by_rule, by_user}
use Rattle.vc_plan.specs.Seen.{Seen, is_value, slot_in}
use Rattle.vc_plan.specs.Sources.{Sources}
use Rattle.vc_plan_reasons.specs.Things.{Thing, slot_at, var_at}
use Rattle.vc_rule.specs.Resting.{is_text}
use Rattle.vc_net_laws.specs.declared.triggers.Trigger.{Trigger}
use Rattle.vc_net_laws.specs.Triggers.{trigger_by}
use Rattle.vc_net_agenda.specs.Agendas.{Awaited, added}
use Rattle.vc_net_readers.specs.declared.glances.Hint.{Hint}
use Rattle.vc_net_readers.specs.declared.glances.Hint.TheVariants.{GivesText, IsLast, Untold}
use Rattle.vc_net_readers.specs.Laws.{asked}
use Rattle.vc_net_sources.specs.Asking.{rests_at, tells_nothing}

-- the agenda with each of the givers, as far as the plan has them and they don't wait yet
abbrev pub with_givers : Awaited → List Giver → Awaited
with_givers agenda [] = agenda
with_givers agenda (giver ∷ givers) = with_givers (added agenda giver) givers

-- rules of these numbers
abbrev pub rules_in : List ℕ → List Giver
rules_in rules = map by_rule rules

-- whether nothing is waited for, or the value for which it is stands
abbrev pub is_met : Seen → Option Trigger → Bool
is_met seen None = true
is_met seen (Some trigger) = is_value trigger.value (seen.value trigger.var)

-- whether it isn't told at a glance that a rule says nothing new
abbrev pub may_say : Plan → Seen → ℕ → Bool
may_say plan seen r = not (rests_at plan seen r)

-- the same of a rule of which this is told at a glance
abbrev pub rests_told : Seen → Hint → Bool
rests_told seen (GivesText v t) = is_text (Text t) (seen.value v)
rests_told seen (IsLast v has_two) =
    is_some (seen.value v) || (has_two && (not (seen.out v 0) && not (seen.out v 1)))
rests_told seen Untold = false

-- whether it is met besides
abbrev pub is_stirred : Plan → Seen → ℕ → Bool
is_stirred plan seen r = is_met seen (trigger_by plan (by_rule r)) && may_say plan seen r

abbrev pub stirred_rules : Plan → Seen → List ℕ → List Giver
stirred_rules plan seen rules = rules_in (filter (is_stirred plan seen) rules)

-- the sources of a variable, and those of them that tell something; the latter of the variables of a slot, of the first
-- so many variables; and those that touch a thing
abbrev pub sources_of : ℕ → List Giver
sources_of v = by_user v ∷ by_entry v ∷ []

abbrev pub tells : Sources → Giver → Bool
tells sources giver = not (tells_nothing sources giver)

abbrev pub telling : Sources → ℕ → List Giver
telling sources v = filter (tells sources) (sources_of v)

abbrev pub is_slot : ℕ → Option ℕ → Bool
is_slot i None = false
is_slot i (Some j) = i == j

abbrev pub is_var_of : Plan → ℕ → ℕ → Bool
is_var_of plan i v = is_slot i (slot_in (slice_get plan.vars v))

abbrev pub telling_in_slot : Plan → Sources → ℕ → ℕ → List Giver
telling_in_slot plan sources i zero = []
telling_in_slot plan sources i (suc n) =
    telling_in_slot plan sources i n ++ (if is_var_of plan i n then telling sources n else [])

abbrev pub telling_at : Plan → Sources → Thing → List Giver
telling_at plan sources (slot_at i) = telling_in_slot plan sources i (length plan.vars)
telling_at plan sources (var_at v) = telling sources v

-- the rules and sources that touch a thing, but for those at rest; of the rules only those that wait for no value, or
-- for one that stands
abbrev pub waking : Plan → Sources → Seen → Thing → List Giver
waking plan sources seen thing = stirred_rules plan seen (asked plan seen thing) ++ telling_at plan sources thing
