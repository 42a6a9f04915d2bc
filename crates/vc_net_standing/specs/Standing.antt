-- What stands in a net: facts, in the order in which they came.
use Rattle.std.specs.Prelude.{ℕ, Bool, not, ◌&&◌, ◌==◌, nat_eq, nat_lt, if◌then◌else◌, List, [], ◌∷◌, ◌++◌, length, map}
use Rattle.std.specs.Prelude.{take, Option, None, Some}
use Rattle.vc_base.specs.Sets.{has}
use Rattle.vc_value.specs.declared.value.Value.{Value}
use Rattle.vc_plan.specs.declared.atoms.Atom.{Atom}
use Rattle.vc_plan.specs.declared.atoms.Atom.TheVariants.{Here, Out, Is}
use Rattle.vc_plan.specs.Seen.{Seen, same_atom, seen_of}
use Rattle.vc_plan_reasons.specs.Checking.{set_with}
use Rattle.vc_net_places.specs.Places.{Index, place_in}
use Rattle.vc_net_standing.specs.declared.standing.Fact.{Fact}

-- what is kept of a plan's places, and what stands besides that the root is here
pub record Stood : Type 0 where
  pub index : Index
  pub facts : List Fact

abbrev pub atoms_of : List Fact → List Atom
atoms_of facts = map (λ fact. fact.atom) facts

-- what it says
abbrev pub set_of : Stood → List Atom
set_of stood = set_with (atoms_of stood.facts)

abbrev pub seen_by : Stood → Seen
seen_by stood = seen_of (set_of stood)

-- nothing but that the root is here
abbrev pub nothing_at : Index → Stood
nothing_at index = record { index = index; facts = [] }

-- the same with one fact more, as the last
abbrev pub with_fact : Stood → Fact → Stood
with_fact stood fact = record { index = stood.index; facts = stood.facts ++ fact ∷ [] }

-- the first facts alone, so many
abbrev pub first_facts : Stood → ℕ → Stood
first_facts stood count = record { index = stood.index; facts = take count stood.facts }

-- the places of facts
abbrev pub places_of : Index → List Fact → List ℕ
places_of index facts = map (λ fact. place_in index fact.atom) facts

-- whether the atom has a place, and nothing stands there
abbrev pub is_free : Stood → Atom → Bool
is_free stood atom =
    nat_lt (place_in stood.index atom) (length stood.index.things)
    && not (has nat_eq (places_of stood.index stood.facts) (place_in stood.index atom))

-- the number, where the fact of this number is of the atom
abbrev pub number_if_of : Atom → ℕ → Option Fact → Option ℕ
number_if_of atom n None = None
number_if_of atom n (Some fact) = if same_atom atom fact.atom then Some n else None

-- and where it is at the place
abbrev pub number_if_at : Index → ℕ → ℕ → Option Fact → Option ℕ
number_if_at index p n None = None
number_if_at index p n (Some fact) = if p == place_in index fact.atom then Some n else None

-- the value, where the atom is that the variable has one
abbrev pub value_by : ℕ → Atom → Option Value
value_by v (Here i) = None
value_by v (Out w g) = None
value_by v (Is w a) = if w == v then Some a else None

abbrev pub value_if_of : ℕ → Option Fact → Option Value
value_if_of v None = None
value_if_of v (Some fact) = value_by v fact.atom
