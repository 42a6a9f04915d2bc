-- Laws of what is found by any giver, a rule or a source.
use Rattle.std.specs.Prelude.{◌≡◌, ◌<◌, ◌≤◌, ℕ, max, true, false, List, length, slice_get, Some}
use Rattle.vc_base.specs.Chains.{cited}
use Rattle.vc_base.specs.Rounds.{atoms_of}
use Rattle.vc_base.specs.Sets.{has}
use Rattle.vc_plan.specs.declared.atoms.Atom.{Atom}
use Rattle.vc_plan.specs.declared.atoms.Step.{Step}
use Rattle.vc_plan.specs.declared.plans.Plan.{Plan}
use Rattle.vc_plan.specs.Bounds.{clash_bound, greatest, is_at, place_bound, place_for}
use Rattle.vc_plan.specs.Clear.{is_clear}
use Rattle.vc_plan.specs.Domains.{count_of}
use Rattle.vc_plan.specs.Gives.{Giver, gives}
use Rattle.vc_plan.specs.Seen.{Seen, same_atom, says, seen_of}
use Rattle.vc_plan.specs.Sources.{Sources}
use Rattle.vc_plan.specs.Valid.{IsValid}
use Rattle.vc_plan_reasons.specs.Checking.{concluded, is_accepted, is_silent, set_with}
use Rattle.vc_plan_reasons.specs.Fitting.{sources_fit}
use Rattle.vc_plan_blame.specs.Blame.{clash_by, culprit_giving}
use Rattle.vc_plan_blame.specs.Laws.{Blames}
use Rattle.vc_plan_values.specs.Computing.{LiesInGrains}
use Rattle.vc_rule_yield.specs.Yielding.{Conclusion}
use Rattle.vc_rule_premises.specs.Saying.{clashing, concluding, given_of, silent, HasRoomFor}
use Rattle.vc_rule_premises.specs.Sufficing.{each_premise}
use Rattle.vc_rule.specs.Rooms.{rooms_of}
use Rattle.vc_rule.specs.Following.{IsNext}
use Rattle.vc_net_places.specs.Cells.{own_bound}
use Rattle.vc_net_sources.specs.Asking.{evaluations, found_from, is_at_rest, origin_of, tells_nothing}

-- without what it follows from it is what the giver gives
abbrev pub FoundIsGiven : Type 0
FoundIsGiven = (plan : Plan) (sources : Sources) (seen : Seen) (giver : Giver)
    → given_of (found_from plan sources seen giver) ≡ gives plan sources giver seen

-- each premise of what is found at a set is of the set, beside that the root is here
abbrev pub FoundIsConcluded : Type 0
FoundIsConcluded = (plan : Plan) (sources : Sources) (set : List Atom) (giver : Giver)
    → each_premise (has same_atom set) (found_from plan sources (seen_of (set_with set)) giver) ≡ true

-- a conclusion is found by a giver at what a log concludes
pub record IsFound (plan : Plan) (sources : Sources) (log : List Step) (giver : Giver) (conclusion : Conclusion)
    : Type 0 where
  pub all : List Conclusion
  pub place : ℕ
  pub found : found_from plan sources (seen_of (set_with (concluded log))) giver ≡ concluding all
  pub is : slice_get all place ≡ Some conclusion

-- it is given there, and doesn't stand
abbrev pub FoundIsNew : Type 0
FoundIsNew = (plan : Plan) (sources : Sources) (log : List Step) (giver : Giver) (conclusion : Conclusion)
    → IsFound plan sources log giver conclusion
    → (has same_atom (atoms_of (gives plan sources giver (seen_of (set_with (concluded log))))) conclusion.atom ≡ true)
    × (says (seen_of (set_with (concluded log))) conclusion.atom ≡ false)

-- it may come next to the log, by the origin that names the giver
abbrev pub FoundIsNext : Type 0
FoundIsNext = (plan : Plan) (sources : Sources) (log : List Step) (giver : Giver) (conclusion : Conclusion)
    → is_clear plan (set_with (concluded log)) ≡ true → IsFound plan sources log giver conclusion
    → IsNext plan sources log conclusion.atom (origin_of sources giver) conclusion.premises

-- the cells of its place have room for its premises
abbrev pub FoundFitsCells : Type 0
FoundFitsCells = (plan : Plan) (sources : Sources) (log : List Step) (giver : Giver) (conclusion : Conclusion)
    → IsValid plan → is_clear plan (set_with (concluded log)) ≡ true → IsFound plan sources log giver conclusion
    → length conclusion.premises ≤ own_bound plan (place_for conclusion.atom)

-- and those of a clash for the premises of one
abbrev pub ClashFitsCells : Type 0
ClashFitsCells = (plan : Plan) (sources : Sources) (log : List Step) (giver : Giver) (premises : List Atom)
    → IsValid plan → is_clear plan (set_with (concluded log)) ≡ true
    → found_from plan sources (seen_of (set_with (concluded log))) giver ≡ clashing premises
    → length premises ≤ max 1 (greatest (clash_bound plan) plan.rules)

-- a clash found at what an accepted log concludes refutes the sources where they fit, and has a culprit
abbrev pub FoundRefutes : Type 0
FoundRefutes = (plan : Plan) (sources : Sources) (log : List Step) (giver : Giver) (premises : List Atom)
    (numbers : List ℕ)
    → sources_fit plan sources ≡ true → is_accepted plan sources log ≡ true
    → is_clear plan (set_with (concluded log)) ≡ true
    → found_from plan sources (seen_of (set_with (concluded log))) giver ≡ clashing premises
    → cited (concluded log) numbers ≡ Some premises
    → Blames plan sources (clash_by log numbers (culprit_giving sources giver))

-- a yield that is made for the rules of a valid plan has room for what any giver says, where values lie in grains
abbrev pub RoomsSuffice : Type 0
RoomsSuffice = (plan : Plan) (sources : Sources) (seen : Seen) (giver : Giver) → IsValid plan → LiesInGrains plan seen
    → HasRoomFor (rooms_of plan) (found_from plan sources seen giver)

-- a variable of a valid plan has no more grains than the conclusion of its value may have premises: it has the rule of
-- its last grain
abbrev pub GrainsFitPlaces : Type 0
GrainsFitPlaces = (plan : Plan) (v : ℕ) → IsValid plan → v < length plan.vars
    → count_of plan v ≤ place_bound plan (is_at v)

-- a source that tells nothing finds nothing, whatever stands, and to ask it is no evaluation of a rule
abbrev pub SilentSourcesFindNothing : Type 0
SilentSourcesFindNothing = (plan : Plan) (sources : Sources) (seen : Seen) (giver : Giver)
    → tells_nothing sources giver ≡ true → found_from plan sources seen giver ≡ silent

abbrev pub SilentSourcesCostNothing : Type 0
SilentSourcesCostNothing = (sources : Sources) (giver : Giver) → tells_nothing sources giver ≡ true
    → evaluations giver ≡ 0

-- whoever is at rest in a clear set is quiet there: it doesn't clash, and all that it says stands
abbrev pub RestingAreQuiet : Type 0
RestingAreQuiet = (plan : Plan) (sources : Sources) (set : List Atom) (giver : Giver) → is_clear plan set ≡ true
    → is_at_rest plan sources (seen_of set) giver ≡ true
    → is_silent (gives plan sources giver (seen_of set)) ≡ true
