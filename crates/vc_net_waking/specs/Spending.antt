-- How many rules an edit may ask: those on an agenda whose givers touch some things, and whom atoms of these wake.
use Rattle.std.specs.Prelude.{◌≡◌, ◌+◌, ◌≤◌, ℕ, Bool, true, false, List, length}
use Rattle.std.specs.List.{IsDistinct, filter, list_any, sum_by}
use Rattle.vc_base.specs.Rounds.{atoms_of}
use Rattle.vc_base.specs.Sets.{has, Within}
use Rattle.vc_plan.specs.declared.atoms.Atom.{Atom}
use Rattle.vc_plan.specs.declared.plans.Plan.{Plan}
use Rattle.vc_plan.specs.Clear.{is_clear}
use Rattle.vc_plan.specs.Gives.{Giver, by_rule, by_user, by_entry, gives, givers_of}
use Rattle.vc_plan.specs.Seen.{Seen, same_atom, seen_of}
use Rattle.vc_plan.specs.Sources.{Sources}
use Rattle.vc_plan.specs.Valid.{IsValid}
use Rattle.vc_plan_reasons.specs.Things.{Thing, giver_writes, has_thing, thing_of}
use Rattle.vc_plan_reasons.specs.Work.{reach_of, work_on}
use Rattle.vc_net_agenda.specs.Agendas.{Awaited}
use Rattle.vc_net_laws.specs.Waking.{giver_touches}
use Rattle.vc_net_laws.specs.Wakings.{rules_at, things_of}
use Rattle.vc_net_laws.specs.Working.{same_giver}
use Rattle.vc_net_waking.specs.Beginning.{begun}
use Rattle.vc_net_waking.specs.Laws.{IsAgendaOf}
use Rattle.vc_net_waking.specs.Waking.{waking, with_givers}

-- whether the giver touches one of the things
abbrev pub touches_one : Plan → List Thing → Giver → Bool
touches_one plan things giver = list_any (giver_touches plan giver) things

-- how many rules are among givers
abbrev pub is_rule : Giver → Bool
is_rule (by_rule r) = true
is_rule (by_user v) = false
is_rule (by_entry v) = false

abbrev pub rules_among : List Giver → ℕ
rules_among givers = length (filter is_rule givers)

-- the givers are the plan's, each once, and touch one of the things
pub record AreOn (plan : Plan) (things : List Thing) (givers : List Giver) : Type 0 where
  pub once : IsDistinct same_giver givers
  pub there : Within same_giver givers (givers_of plan)
  pub touch : (giver : Giver) → has same_giver givers giver ≡ true → touches_one plan things giver ≡ true

-- whatever a giver of the plan writes that touches one of the things is one of them
abbrev pub HoldsWhatIsWritten : Plan → List Thing → Type 0
HoldsWhatIsWritten plan things = (giver : Giver) (thing : Thing) → has same_giver (givers_of plan) giver ≡ true
    → touches_one plan things giver ≡ true → has_thing (giver_writes plan giver) thing ≡ true
    → has_thing things thing ≡ true

-- so it is of what things reach in a valid plan
abbrev pub ReachHoldsWhatIsWritten : Type 0
ReachHoldsWhatIsWritten = (plan : Plan) (things : List Thing) → IsValid plan
    → HoldsWhatIsWritten plan (reach_of plan things)

-- then a giver on the things concludes atoms of them
abbrev pub ConclusionsAreOfThings : Type 0
ConclusionsAreOfThings = (plan : Plan) (sources : Sources) (things : List Thing) (giver : Giver) (set : List Atom)
    (atom : Atom) → HoldsWhatIsWritten plan things → has same_giver (givers_of plan) giver ≡ true
    → touches_one plan things giver ≡ true
    → has same_atom (atoms_of (gives plan sources giver (seen_of set))) atom ≡ true
    → has_thing things (thing_of atom) ≡ true

-- whom an atom of a thing wakes touches that thing: an agenda stays on the things, and has no more rules more than
-- touch the atom's
abbrev pub WokenAreOn : Type 0
WokenAreOn = (plan : Plan) (sources : Sources) (things : List Thing) (agenda : Awaited) (seen : Seen) (thing : Thing)
    → IsAgendaOf plan agenda → has_thing things thing ≡ true → AreOn plan things agenda.givers
    → AreOn plan things (with_givers agenda (waking plan sources seen thing)).givers

abbrev pub RulesWokenAreFew : Type 0
RulesWokenAreFew = (plan : Plan) (sources : Sources) (agenda : Awaited) (seen : Seen) (atom : Atom)
    → rules_among (with_givers agenda (waking plan sources seen (thing_of atom))).givers
    ≤ rules_among agenda.givers + rules_at plan atom

-- the rules on an agenda, and as often as distinct atoms of the things wake one, are within the work on the things
abbrev pub RulesAreWithinWork : Type 0
RulesAreWithinWork = (plan : Plan) (things : List Thing) (givers : List Giver) (atoms : List Atom)
    → AreOn plan things givers → is_clear plan atoms ≡ true → IsDistinct same_atom atoms
    → ((atom : Atom) → has same_atom atoms atom ≡ true → has_thing things (thing_of atom) ≡ true)
    → rules_among givers + sum_by (rules_at plan) atoms ≤ work_on plan things

-- a giver of a valid plan touches some thing of it, so who waits at the start touches what all things reach
abbrev pub EachTouchesSomething : Type 0
EachTouchesSomething = (plan : Plan) (giver : Giver) → IsValid plan → has same_giver (givers_of plan) giver ≡ true
    → touches_one plan (things_of plan) giver ≡ true

abbrev pub BeginnersAreOn : Type 0
BeginnersAreOn = (plan : Plan) (agenda : Awaited) → IsValid plan → IsAgendaOf plan agenda
    → AreOn plan (reach_of plan (things_of plan)) (begun plan agenda).givers
