-- Which rules touch a slot or a variable.
use Rattle.std.specs.Prelude.{ℕ, Bool, ◌&&◌, nat_eq, List, length, map, slice_get, Option, None, Some}
use Rattle.std.specs.List.{filter, flat_map, list_any}
use Rattle.vc_plan.specs.declared.plans.Plan.{Plan}
use Rattle.vc_plan.specs.Domains.{numbers_below}
use Rattle.vc_plan.specs.Gives.{by_rule}
use Rattle.vc_plan_reasons.specs.Things.{Thing, slot_at, var_at}
use Rattle.vc_net_laws.specs.declared.triggers.Trigger.{Trigger}
use Rattle.vc_net_laws.specs.Triggers.{trigger_by}
use Rattle.vc_net_laws.specs.Waking.{giver_touches}
use Rattle.vc_net_places.specs.Places.{index_of}
use Rattle.vc_net_readers.specs.declared.glances.Glance.{Glance}
use Rattle.vc_net_readers.specs.Glances.{glances_of, trigger_told}
use Rattle.vc_net_readers.specs.Touched.{vars_by}
use Rattle.vc_net_readers.specs.Waiting.{is_free, is_own, waits_by}

-- the rules by what they touch and what they wait for
pub record Index : Type 0 where
  pub by_slot : List (List ℕ)
  pub by_var : List (List ℕ)
  pub free : List (List ℕ)
  pub awaited : List (List ℕ)
  pub by_place : List (List ℕ)
  pub triggers : List (Option Trigger)
  pub glances : List Glance

-- the rules that touch a thing, in their order
abbrev pub is_reader : Plan → Thing → ℕ → Bool
is_reader plan thing r = giver_touches plan (by_rule r) thing

abbrev pub readers_at : Plan → Thing → List ℕ
readers_at plan thing = filter (is_reader plan thing) (numbers_below (length plan.rules))

-- those that touch a variable and wait for nothing, those that wait for a value of a variable, and those that wait for
-- one in the grain of a place
abbrev pub is_free_at : Plan → ℕ → ℕ → Bool
is_free_at plan v r = is_reader plan (var_at v) r && is_free (trigger_by plan (by_rule r))

abbrev pub waits_for : Plan → ℕ → ℕ → Bool
waits_for plan u r = is_own u (trigger_by plan (by_rule r))

abbrev pub waits_at : Plan → ℕ → ℕ → Bool
waits_at plan place r = list_any (nat_eq place) (waits_by plan r)

-- whether some rule that touches the variable waits for a value of another one, or of itself
abbrev pub awaits : Plan → ℕ → ℕ → Bool
awaits plan v u = list_any (λ r. is_reader plan (var_at v) r && waits_for plan u r) (numbers_below (length plan.rules))

-- the rules that wait for a value of a variable, and what these touch
abbrev pub waiters_of : Plan → ℕ → List ℕ
waiters_of plan u = filter (waits_for plan u) (numbers_below (length plan.rules))

abbrev pub touched_with : Plan → ℕ → List ℕ
touched_with plan u = flat_map (vars_by plan) (waiters_of plan u)

-- of each slot, of each variable, and of each place
abbrev pub slot_lists : Plan → List (List ℕ)
slot_lists plan = map (λ i. readers_at plan (slot_at i)) (numbers_below (length plan.slots))

abbrev pub var_lists : Plan → List (List ℕ)
var_lists plan = map (λ v. readers_at plan (var_at v)) (numbers_below (length plan.vars))

abbrev pub free_lists : Plan → List (List ℕ)
free_lists plan =
    map (λ v. filter (is_free_at plan v) (numbers_below (length plan.rules))) (numbers_below (length plan.vars))

abbrev pub waiter_lists : Plan → List (List ℕ)
waiter_lists plan = map (waiters_of plan) (numbers_below (length plan.vars))

-- the variables of which a value is waited for by some rule that touches the variable, in their order
abbrev pub awaited_lists : Plan → List (List ℕ)
awaited_lists plan =
    map (λ v. filter (awaits plan v) (numbers_below (length plan.vars))) (numbers_below (length plan.vars))

abbrev pub place_lists : Plan → List (List ℕ)
place_lists plan = map (λ place. filter (waits_at plan place) (numbers_below (length plan.rules)))
    (numbers_below (length (index_of plan).things))

-- of each rule its trigger; that of a number: a rule that isn't there has none
abbrev pub triggers_of : Plan → List (Option Trigger)
triggers_of plan = map trigger_told (glances_of plan)

abbrev pub trigger_or_none : Option (Option Trigger) → Option Trigger
trigger_or_none None = None
trigger_or_none (Some trigger) = trigger

abbrev pub trigger_at : List (Option Trigger) → ℕ → Option Trigger
trigger_at triggers r = trigger_or_none (slice_get triggers r)

abbrev pub readers_of : Plan → Index
readers_of plan = record {
  by_slot = slot_lists plan;
  by_var = var_lists plan;
  free = free_lists plan;
  awaited = awaited_lists plan;
  by_place = place_lists plan;
  triggers = triggers_of plan;
  glances = glances_of plan;
}
