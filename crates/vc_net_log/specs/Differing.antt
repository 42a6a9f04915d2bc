-- Where sources may differ, and the first fact that is gone then, found by the places of these variables' values.
use Rattle.std.specs.Prelude.{◌≡◌, ℕ, Bool, true, false, if◌then◌else◌, List, [], ◌∷◌, length, min, nat_eq, position}
use Rattle.std.specs.Prelude.{slice_get, slice_index_or, Option, None, Some}
use Rattle.std.specs.List.{list_all}
use Rattle.vc_base.specs.Sets.{has}
use Rattle.vc_plan.specs.declared.atoms.Atom.{Atom}
use Rattle.vc_plan.specs.declared.atoms.Atom.TheVariants.{Here, Out, Is}
use Rattle.vc_plan.specs.declared.atoms.Origin.{Origin}
use Rattle.vc_plan.specs.declared.atoms.Origin.TheVariants.{Rule, User, Written}
use Rattle.vc_net_places.specs.Places.{Index, first_in}
use Rattle.vc_net_standing.specs.declared.standing.Fact.{Fact}
use Rattle.vc_net_standing.specs.Standing.{places_of}

-- two lists have the same for each variable but these
abbrev pub SameBeside : {A : Type 0} → List ℕ → List (Option A) → List (Option A) → Type 0
SameBeside vars xs ys = (v : ℕ) → has nat_eq vars v ≡ false → slice_index_or xs v None ≡ slice_index_or ys v None

-- whether the atom is that a variable has a value
abbrev pub is_of_value : Atom → Bool
is_of_value (Here i) = false
is_of_value (Out v g) = false
is_of_value (Is v a) = true

-- whether the origin may give the atom: a source gives values alone
abbrev pub may_give : Origin → Atom → Bool
may_give (Rule r) atom = true
may_give User atom = is_of_value atom
may_give (Written procedure statement) atom = is_of_value atom

-- whether each fact is such as its origin may give
abbrev pub are_givable : List Fact → Bool
are_givable facts = list_all (λ fact. may_give fact.origin fact.atom) facts

-- the number, where the fact of this number is gone; of all, where it isn't
abbrev pub number_if_gone : (Fact → Bool) → ℕ → ℕ → Option Fact → ℕ
number_if_gone gone all n None = all
number_if_gone gone all n (Some fact) = if gone fact then n else all

abbrev pub gone_number : (Fact → Bool) → List Fact → Option ℕ → ℕ
gone_number gone facts None = length facts
gone_number gone facts (Some n) = number_if_gone gone (length facts) n (slice_get facts n)

-- so for the fact at the place of the variable's value, and the least of a number and those for some variables
abbrev pub gone_at : Index → (Fact → Bool) → List Fact → ℕ → ℕ
gone_at index gone facts v = gone_number gone facts (position (nat_eq (first_in index v)) (places_of index facts))

abbrev pub least_gone : Index → (Fact → Bool) → List Fact → ℕ → List ℕ → ℕ
least_gone index gone facts n [] = n
least_gone index gone facts n (v ∷ vars) = least_gone index gone facts (min n (gone_at index gone facts v)) vars
