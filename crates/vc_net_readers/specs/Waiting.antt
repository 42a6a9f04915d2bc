-- Which rules wait for a value, of which variable and under which grain.
use Rattle.std.specs.Prelude.{ℕ, Bool, true, false, ◌==◌, if◌then◌else◌, List, [], ◌∷◌, Option, None}
use Rattle.std.specs.Prelude.{Some}
use Rattle.std.specs.Option.{option_to_list}
use Rattle.vc_value.specs.declared.value.Value.{Value}
use Rattle.vc_plan.specs.declared.atoms.Atom.TheVariants.{Out}
use Rattle.vc_plan.specs.declared.plans.Plan.{Plan}
use Rattle.vc_plan.specs.Gives.{by_rule}
pub use Rattle.vc_rule_grains.specs.Finding.{grain_in, grain_with}
use Rattle.vc_net_laws.specs.declared.triggers.Trigger.{Trigger}
use Rattle.vc_net_laws.specs.Triggers.{trigger_by}
use Rattle.vc_net_places.specs.Places.{Index, index_of, place_in}
use Rattle.vc_net_readers.specs.Touched.{vars_by}

-- whether nothing is waited for; whether a trigger is a value of the variable; and of which variables it is one
abbrev pub is_free : Option Trigger → Bool
is_free None = true
is_free (Some trigger) = false

abbrev pub is_own : ℕ → Option Trigger → Bool
is_own v None = false
is_own v (Some trigger) = v == trigger.var

abbrev pub vars_of_trigger : Option Trigger → List ℕ
vars_of_trigger None = []
vars_of_trigger (Some trigger) = trigger.var ∷ []

-- the variables that a rule touches, if it waits for nothing
abbrev pub free_by : Plan → ℕ → List ℕ
free_by plan r = if is_free (trigger_by plan (by_rule r)) then vars_by plan r else []

-- the variables for whose value a rule waits
abbrev pub awaited_by : Plan → ℕ → List ℕ
awaited_by plan r = vars_of_trigger (trigger_by plan (by_rule r))

-- that of the value that a variable has, if it has one
abbrev pub grain_held : Plan → ℕ → Option Value → Option ℕ
grain_held plan v None = None
grain_held plan v (Some a) = grain_with plan v a

-- the place of a grain
abbrev pub place_in_grain : Index → ℕ → Option ℕ → Option ℕ
place_in_grain index v None = None
place_in_grain index v (Some g) = Some (place_in index (Out v g))

abbrev pub place_of_trigger : Plan → Option Trigger → Option ℕ
place_of_trigger plan None = None
place_of_trigger plan (Some trigger) =
    place_in_grain (index_of plan) trigger.var (grain_with plan trigger.var trigger.value)

-- the place under which a rule waits, if it does
abbrev pub waits_by : Plan → ℕ → List ℕ
waits_by plan r = option_to_list (place_of_trigger plan (trigger_by plan (by_rule r)))
