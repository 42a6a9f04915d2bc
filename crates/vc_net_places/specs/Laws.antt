-- Laws of places: each atom of a plan has its own, and all are counted.
use Rattle.std.specs.Prelude.{◌≡◌, ◌<◌, ◌+◌, ℕ, max, true, List, length, slice_get, slice_index_or, Some}
use Rattle.vc_plan.specs.declared.atoms.Atom.{Atom}
use Rattle.vc_plan.specs.declared.plans.Plan.{Plan}
use Rattle.vc_plan.specs.Bounds.{Place, cell_bound, clash_bound, greatest, place_for}
use Rattle.vc_plan.specs.Clear.{is_named}
use Rattle.vc_plan.specs.Domains.{atom_count}
use Rattle.vc_net_places.specs.Cells.{all_places, begins_from, bounds_of, own_bound, total}
use Rattle.vc_net_places.specs.Places.{index_of, is_place, number_of, place_in, place_numbered, place_of}
use Rattle.vc_net_places.specs.Places.{thing_at}

-- an atom that the plan names has a place
abbrev pub NamedHavePlaces : Type 0
NamedHavePlaces = (plan : Plan) (atom : Atom) → is_named plan atom ≡ true → is_place plan (place_for atom) ≡ true

-- places are numbered below the count of atoms
abbrev pub PlacesAreCounted : Type 0
PlacesAreCounted = (plan : Plan) (place : Place) → is_place plan place ≡ true → number_of plan place < atom_count plan

-- two places have different numbers
abbrev pub PlacesAreApart : Type 0
PlacesAreApart = (plan : Plan) (place other : Place) → is_place plan place ≡ true → is_place plan other ≡ true
    → number_of plan place ≡ number_of plan other → place ≡ other

-- each number below the count is that of a place
abbrev pub NumbersAreTaken : Type 0
NumbersAreTaken = (plan : Plan) (n : ℕ) → n < atom_count plan
    → (place : Place) × (is_place plan place ≡ true) × (number_of plan place ≡ n)

-- what is kept tells the number of an atom's place
abbrev pub IndexTellsPlaces : Type 0
IndexTellsPlaces = (plan : Plan) (atom : Atom) → is_place plan (place_for atom) ≡ true
    → place_in (index_of plan) atom ≡ place_of plan atom

-- and what each place is of, as many as there are
abbrev pub IndexTellsThings : Type 0
IndexTellsThings = (plan : Plan) (place : Place) → is_place plan place ≡ true
    → slice_get (index_of plan).things (number_of plan place) ≡ Some (thing_at place)

abbrev pub IndexTellsBack : Type 0
IndexTellsBack = (plan : Plan) (place : Place) → is_place plan place ≡ true
    → place_numbered (index_of plan) (number_of plan place) ≡ place

abbrev pub ThingsAreCounted : Type 0
ThingsAreCounted = (plan : Plan) → length (index_of plan).things ≡ atom_count plan

-- a first place is kept of each variable
abbrev pub FirstsAreCounted : Type 0
FirstsAreCounted = (plan : Plan) → length (index_of plan).firsts ≡ length plan.vars

-- the places in their order stand at their numbers
abbrev pub PlacesAreInOrder : Type 0
PlacesAreInOrder = (plan : Plan) (place : Place) → is_place plan place ≡ true
    → slice_get (all_places plan) (number_of plan place) ≡ Some place

-- the cells of all places, and those of one clash, are what the plan's bound counts
abbrev pub CellsSuffice : Type 0
CellsSuffice = (plan : Plan) → total (bounds_of plan) + max 1 (greatest (clash_bound plan) plan.rules) ≡ cell_bound plan

-- cells that follow one another don't overlap: each begin where those before them end, the last at the total
abbrev pub CellsAreApart : Type 0
CellsAreApart = (bounds : List ℕ) (n : ℕ) → n < length bounds
    → slice_index_or (begins_from 0 bounds) n 0 + slice_index_or bounds n 0
    ≡ slice_index_or (begins_from 0 bounds) (n + 1) 0

abbrev pub CellsEndAtTotal : Type 0
CellsEndAtTotal = (bounds : List ℕ) → slice_index_or (begins_from 0 bounds) (length bounds) 0 ≡ total bounds

-- what a place's cells are counted by
abbrev pub BoundsAreByPlace : Type 0
BoundsAreByPlace = (plan : Plan) (place : Place) → is_place plan place ≡ true
    → slice_get (bounds_of plan) (number_of plan place) ≡ Some (own_bound plan place)
