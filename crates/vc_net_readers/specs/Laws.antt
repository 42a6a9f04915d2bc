-- Who is asked when an atom comes: none too few, and none that doesn't touch its thing.
use Rattle.std.specs.Prelude.{◌≡◌, ◌<◌, ◌++◌, ℕ, Bool, true, nat_eq, nat_lt, List, [], ◌∷◌, length, Option, None, Some}
use Rattle.std.specs.List.{filter, flat_map}
use Rattle.vc_base.specs.Sets.{has}
use Rattle.vc_value.specs.declared.value.Value.{Value}
use Rattle.vc_plan.specs.declared.atoms.Atom.{Atom}
use Rattle.vc_plan.specs.declared.atoms.Atom.TheVariants.{Is}
use Rattle.vc_plan.specs.declared.plans.Plan.{Plan}
use Rattle.vc_plan.specs.Gives.{by_rule}
use Rattle.vc_plan.specs.Seen.{Seen, same_atom}
use Rattle.vc_plan_reasons.specs.Things.{Thing, slot_at, thing_of, var_at}
use Rattle.vc_net_laws.specs.Triggers.{trigger_by}
use Rattle.vc_net_laws.specs.Waking.{giver_touches, is_woken}
use Rattle.vc_net_places.specs.Places.{index_of}
use Rattle.vc_net_readers.specs.Filing.{list_at}
use Rattle.vc_net_readers.specs.Glances.{glance_at, glance_by}
use Rattle.vc_net_readers.specs.Readers.{Index, is_reader, readers_of, trigger_at}
use Rattle.vc_net_readers.specs.Waiting.{grain_held, grain_with, place_in_grain}

-- the rules that wait at a place, if there is one
abbrev pub waiting_in : Index → Option ℕ → List ℕ
waiting_in readers None = []
waiting_in readers (Some place) = list_at readers.by_place place

-- the rules that wait in the grain of the value that a variable has, if it has one
abbrev pub waiting_on : Plan → Seen → ℕ → List ℕ
waiting_on plan seen u =
    waiting_in (readers_of plan) (place_in_grain (index_of plan) u (grain_held plan u (seen.value u)))

-- who is asked when an atom of the thing comes: a slot's readers; or those of a variable that wait for nothing, and
-- those that wait in the grain of a value that some variable has
abbrev pub asked : Plan → Seen → Thing → List ℕ
asked plan seen (slot_at i) = list_at (readers_of plan).by_slot i
asked plan seen (var_at v) =
    list_at (readers_of plan).free v
    ++ filter (is_reader plan (var_at v)) (flat_map (waiting_on plan seen) (list_at (readers_of plan).awaited v))

-- whether the plan has the thing
abbrev pub has_such : Plan → Thing → Bool
has_such plan (slot_at i) = nat_lt i (length plan.slots)
has_such plan (var_at v) = nat_lt v (length plan.vars)

-- of each value that the set has its grain is seen, which is there
abbrev pub SeesGrains : Plan → List Atom → Seen → Type 0
SeesGrains plan set seen = (u : ℕ) (a : Value) → has same_atom set (Is u a) ≡ true
    → (g : ℕ) × (grain_held plan u (seen.value u) ≡ Some g) × (grain_with plan u a ≡ Some g)

-- each rule that is woken is asked
abbrev pub WokenAreAsked : Type 0
WokenAreAsked = (plan : Plan) (set : List Atom) (atom : Atom) (seen : Seen) (r : ℕ) → r < length plan.rules
    → has_such plan (thing_of atom) ≡ true → SeesGrains plan (set ++ atom ∷ []) seen
    → is_woken plan set atom (by_rule r) ≡ true → has nat_eq (asked plan seen (thing_of atom)) r ≡ true

-- each that is asked touches the thing
abbrev pub AskedTouch : Type 0
AskedTouch = (plan : Plan) (seen : Seen) (thing : Thing) (r : ℕ) → has nat_eq (asked plan seen thing) r ≡ true
    → giver_touches plan (by_rule r) thing ≡ true

-- the trigger that is kept of a rule is the rule's, of whatever number
abbrev pub TriggersAreKept : Type 0
TriggersAreKept = (plan : Plan) (r : ℕ) → trigger_at (readers_of plan).triggers r ≡ trigger_by plan (by_rule r)

-- and what is told of it at a glance
abbrev pub GlancesAreKept : Type 0
GlancesAreKept = (plan : Plan) (r : ℕ) → glance_at (readers_of plan).glances r ≡ glance_by plan r
