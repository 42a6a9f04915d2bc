-- What a set of atoms says.
use Rattle.std.specs.Prelude.{ℕ, Bool, false, not, ◌&&◌, ◌==◌, if◌then◌else◌, List, [], ◌∷◌, slice_get, Option, None}
use Rattle.std.specs.Prelude.{Some}
use Rattle.std.specs.List.{filter}
use Rattle.vc_base.specs.Sets.{has}
use Rattle.vc_value.specs.declared.value.Value.{Value}
use Rattle.vc_plan.specs.declared.atoms.Atom.{Atom}
use Rattle.vc_plan.specs.declared.atoms.Atom.TheVariants.{Here, Out, Is}
use Rattle.vc_plan.specs.declared.plans.Plan.{Plan}
use Rattle.vc_plan.specs.declared.plans.Slot.{Slot}
use Rattle.vc_plan.specs.declared.plans.Var.{Var}
use Rattle.vc_plan.specs.Domains.{numbers_below, count_of, is_grain_with}
use Rattle.vc_plan.specs.Pieces.{same_value, lies_in}

-- whether two atoms are one
abbrev pub same_atom : Atom → Atom → Bool
same_atom (Here i) (Here j) = i == j
same_atom (Here i) (Out w h) = false
same_atom (Here i) (Is w b) = false
same_atom (Out v g) (Here j) = false
same_atom (Out v g) (Out w h) = (v == w) && (g == h)
same_atom (Out v g) (Is w b) = false
same_atom (Is v a) (Here j) = false
same_atom (Is v a) (Out w h) = false
same_atom (Is v a) (Is w b) = (v == w) && same_value a b

-- which slots are here, which grains of variables are out, and which value a variable has
pub record Seen : Type 0 where
  pub here : ℕ → Bool
  pub out : ℕ → ℕ → Bool
  pub value : ℕ → Option Value

-- the value that a set says of the variable, the first if there are more
abbrev pub value_in : List Atom → ℕ → Option Value
value_in [] v = None
value_in (Here i ∷ set) v = value_in set v
value_in (Out w g ∷ set) v = value_in set v
value_in (Is w a ∷ set) v = let later = value_in set v in if w == v then Some a else later

-- what a set says
abbrev pub seen_of : List Atom → Seen
seen_of set = record {
  here = λ i. has same_atom set (Here i);
  out = λ v g. has same_atom set (Out v g);
  value = value_in set;
}

-- whether it is this value
abbrev pub is_value : Value → Option Value → Bool
is_value a None = false
is_value a (Some b) = same_value a b

-- whether the atom is said
abbrev pub says : Seen → Atom → Bool
says seen (Here i) = seen.here i
says seen (Out v g) = seen.out v g
says seen (Is v a) = is_value a (seen.value v)

-- whether the slot is here; one that isn't there is not
abbrev pub is_slot_here : Seen → Option ℕ → Bool
is_slot_here seen None = false
is_slot_here seen (Some i) = seen.here i

-- the slot of the variable, and the parent of the slot
abbrev pub slot_in : Option Var → Option ℕ
slot_in None = None
slot_in (Some x) = Some x.slot

abbrev pub parent_in : Option Slot → Option ℕ
parent_in None = None
parent_in (Some slot) = slot.parent

-- whether the variable's slot is here
abbrev pub is_here : Plan → Seen → ℕ → Bool
is_here plan seen v = is_slot_here seen (slot_in (slice_get plan.vars v))

-- whether the parent of the slot is here
abbrev pub is_parent_here : Plan → Seen → ℕ → Bool
is_parent_here plan seen i = is_slot_here seen (parent_in (slice_get plan.slots i))

-- whether the grain of the variable is left where it has this value, or none
abbrev pub is_left_by : Plan → Seen → ℕ → ℕ → Option Value → Bool
is_left_by plan seen v g None = not (seen.out v g)
is_left_by plan seen v g (Some a) = is_grain_with plan v (lies_in a) g

-- whether the grain is left: it holds the variable's value, or there is no value and it isn't out
abbrev pub is_left : Plan → Seen → ℕ → ℕ → Bool
is_left plan seen v g = is_left_by plan seen v g (seen.value v)

-- the grains left of the variable
abbrev pub left : Plan → Seen → ℕ → List ℕ
left plan seen v = filter (is_left plan seen v) (numbers_below (count_of plan v))
