-- Laws of what decides conditions, and of what is cited.
use Rattle.std.specs.Prelude.{◌≡◌, ◌≤◌, Bool, true, false, nat_eq, List, length, slice_get}
use Rattle.std.specs.List.{list_all, IsDistinct}
use Rattle.vc_base.specs.Rounds.{Given}
use Rattle.vc_base.specs.Sets.{has, Within}
use Rattle.vc_plan.specs.declared.atoms.Atom.{Atom}
use Rattle.vc_plan.specs.declared.atoms.Atom.TheVariants.{Here}
use Rattle.vc_plan.specs.declared.conditions.Condition.{Condition}
use Rattle.vc_plan.specs.declared.plans.Plan.{Plan}
use Rattle.vc_plan.specs.declared.rules.Rule.{Rule}
use Rattle.vc_plan.specs.Answers.{fresh}
use Rattle.vc_plan.specs.Gives.{acts}
use Rattle.vc_plan.specs.Kleene.{truth_of}
use Rattle.vc_plan.specs.Readings.{net_reading}
use Rattle.vc_plan.specs.Reads.{vars_read}
use Rattle.vc_plan.specs.Seen.{Seen, same_atom}
use Rattle.vc_plan.specs.Truth.{truth}
use Rattle.vc_rule_yield.specs.Yielding.{Rooms, nothing_in}
use Rattle.vc_rule_premises.specs.Cited.{cited_once}
use Rattle.vc_rule_premises.specs.Citing.{cited_all, deciding_if}
use Rattle.vc_rule_premises.specs.Deciding.{deciding, SameValues}
use Rattle.vc_rule_premises.specs.Saying.{Said, given_of, said_from, taken, said_with, held, HasRoomFor}
use Rattle.vc_rule_premises.specs.Sufficing.{IsPartOf, SaysAll, seen_from}

-- what makes a condition true, or false, does so alone: wherever those variables have the same values it is so too
abbrev pub DecidingSuffices : Type 0
DecidingSuffices = (s t : Seen) (so : Bool) (c : Condition) → truth (net_reading s) c ≡ truth_of so
    → SameValues t s (deciding (net_reading s) so c) → truth (net_reading t) c ≡ truth_of so

-- it is among what the condition reads
abbrev pub DecidingIsRead : Type 0
DecidingIsRead = (s : Seen) (so : Bool) (c : Condition) → Within nat_eq (deciding (net_reading s) so c) (vars_read c)

-- a rule that acts does so wherever its slots are here and what makes its condition true has the same values
abbrev pub ActingSuffices : Type 0
ActingSuffices = (plan : Plan) (s t : Seen) (rule : Rule) → acts plan s rule ≡ true → list_all t.here rule.slots ≡ true
    → SameValues t s (deciding_if s (slice_get plan.conditions rule.condition)) → acts plan t rule ≡ true

-- of a list all is cited but that the root is here, and nothing else; each once; so no more than any list has that
-- holds all
abbrev pub AllIsCited : Type 0
AllIsCited = (premises : List Atom) (a : Atom) → has same_atom premises a ≡ true → same_atom (Here 0) a ≡ false
    → has same_atom (cited_once premises) a ≡ true

abbrev pub NothingElseIsCited : Type 0
NothingElseIsCited = (premises : List Atom) (a : Atom) → has same_atom (cited_once premises) a ≡ true
    → (has same_atom premises a ≡ true) × (same_atom (Here 0) a ≡ false)

abbrev pub EachIsCitedOnce : Type 0
EachIsCitedOnce = (premises : List Atom) → IsDistinct same_atom (cited_once premises)

abbrev pub FewAreCited : Type 0
FewAreCited = (premises all : List Atom) → Within same_atom (cited_once premises) all
    → length (cited_once premises) ≤ length all

-- what is said of what is given is that, without what stands already
abbrev pub FreshIsSaid : Type 0
FreshIsSaid = (seen : Seen) (premises : List Atom) (given : Given Atom)
    → given_of (said_from seen premises given) ≡ fresh seen given

-- a yield with room for it holds all that is said, each with why the rule acts cited first
abbrev pub RoomSuffices : Type 0
RoomSuffices = (rooms : Rooms) (why : List Atom) (said : Said) → HasRoomFor rooms (said_with why said)
    → held (taken (cited_all (nothing_in rooms) why) said) ≡ said_with why said

-- what premises that stand say is a part of what is seen, and all of them
abbrev pub PremisesAreAPart : Type 0
PremisesAreAPart = (seen : Seen) (premises : List Atom) → seen.here 0 ≡ true → SaysAll seen premises
    → IsPartOf (seen_from premises) seen × SaysAll (seen_from premises) premises
