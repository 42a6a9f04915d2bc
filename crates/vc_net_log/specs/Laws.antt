-- Laws of logs.
use Rattle.std.specs.Prelude.{◌≡◌, ◌∷◌, ◌++◌, [], true, false, List, length, Some}
use Rattle.vc_base.specs.Chains.{cited}
use Rattle.vc_base.specs.Sets.{Within}
use Rattle.vc_plan.specs.declared.atoms.Atom.{Atom}
use Rattle.vc_plan.specs.declared.atoms.Step.{Step}
use Rattle.vc_plan.specs.declared.plans.Plan.{Plan}
use Rattle.vc_plan.specs.Clear.{is_clear, is_named}
use Rattle.vc_plan.specs.Domains.{atom_count}
use Rattle.vc_plan.specs.Seen.{same_atom, says}
use Rattle.vc_plan.specs.Bounds.{place_for}
use Rattle.vc_plan_reasons.specs.Checking.{concluded, set_with}
use Rattle.vc_net_places.specs.Cells.{begins_of, bounds_of, own_bound}
use Rattle.vc_net_places.specs.Places.{index_of, place_in}
use Rattle.vc_net_standing.specs.declared.standing.Fact.{Fact}
use Rattle.vc_net_standing.specs.Standing.{is_free}
use Rattle.vc_net_log.specs.Logs.{Logged, cited_by, room_at, seen_by, stood_of, with_step}

-- premises that are concluded are what their numbers cite
abbrev pub PremisesAreCited : Type 0
PremisesAreCited = (steps : List Step) (premises : List Atom) → Within same_atom premises (concluded steps)
    → cited (concluded steps) (cited_by steps premises) ≡ Some premises

-- with one step more, one atom more is concluded
abbrev pub StepsConclude : Type 0
StepsConclude = (log : Logged) (fact : Fact) (premises : List Atom)
    → concluded (with_step log fact premises).steps ≡ concluded log.steps ++ fact.atom ∷ []

-- an atom that doesn't stand yet and leaves the set clear may come: its place is free
abbrev pub NewStepsAreFree : Type 0
NewStepsAreFree = (plan : Plan) (log : Logged) (atom : Atom) → log.index ≡ index_of plan
    → is_clear plan (set_with (concluded log.steps ++ atom ∷ [])) ≡ true → says (seen_by log) atom ≡ false
    → is_free (stood_of log) atom ≡ true

-- where cells are by a plan's bounds, there is room at an atom's place for as many premises as its bound says
abbrev pub RoomsAreBounds : Type 0
RoomsAreBounds = (plan : Plan) (atom : Atom) → is_named plan atom ≡ true
    → room_at (begins_of plan) (place_in (index_of plan) atom) ≡ own_bound plan (place_for atom)

-- a plan has a bound for each place
abbrev pub BoundsAreCounted : Type 0
BoundsAreCounted = (plan : Plan) → length (bounds_of plan) ≡ atom_count plan
