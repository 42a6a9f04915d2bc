-- How the work of a net goes on: what it keeps, what a conclusion needs to come, and how a turn ends.
use Rattle.std.specs.Prelude.{◌≡◌, ◌≤◌, ◌||◌, ℕ, Bool, true, false, List, [], ◌∷◌, ◌++◌, length}
use Rattle.vc_base.specs.Rounds.{broken}
use Rattle.vc_base.specs.Sets.{has, Within}
use Rattle.vc_plan.specs.declared.atoms.Atom.{Atom}
use Rattle.vc_plan.specs.declared.atoms.Step.{Step}
use Rattle.vc_plan.specs.declared.plans.Plan.{Plan}
use Rattle.vc_plan.specs.Gives.{Giver, givers_of}
use Rattle.vc_plan.specs.Seen.{same_atom, says}
use Rattle.vc_plan.specs.Settle.{settlement_of}
use Rattle.vc_plan.specs.Sources.{Sources}
use Rattle.vc_plan.specs.Bounds.{place_for}
use Rattle.vc_plan_blame.specs.Laws.{Blames}
use Rattle.vc_plan_reasons.specs.Checking.{concluded, is_accepted, set_with}
use Rattle.vc_rule.specs.Following.{IsNext}
use Rattle.vc_rule_premises.specs.Saying.{concluding}
use Rattle.vc_rule_yield.specs.Yielding.{Conclusion}
use Rattle.vc_net_laws.specs.Forced.{IsForced, is_quiet}
use Rattle.vc_net_laws.specs.Waking.{is_woken}
use Rattle.vc_net_laws.specs.Wakings.{turns_left}
use Rattle.vc_net_laws.specs.Working.{IsWorking, same_giver}
use Rattle.vc_net_log.specs.Logs.{seen_by, set_of}
use Rattle.vc_net_places.specs.Cells.{own_bound}
use Rattle.vc_net_sources.specs.Asking.{found_from, origin_of}
use Rattle.vc_net_going.specs.declared.turn.Turn.{Turn}
use Rattle.vc_net_going.specs.declared.turn.Turn.TheVariants as turns
use Rattle.vc_net_going.specs.Breaking.{clash_in}
use Rattle.vc_net_going.specs.Spending.{Spends}
use Rattle.vc_net_waking.specs.Spending.{HoldsWhatIsWritten, touches_one}
use Rattle.vc_plan_reasons.specs.Things.{Thing, has_thing, thing_of}
use Rattle.vc_net_going.specs.declared.work.Work.{Work}
use Rattle.vc_net_going.specs.Working.{IsWorkOf}

-- the log is accepted, and whoever isn't asked again, nor one of these, has nothing more to say
pub record IsGoing (plan : Plan) (sources : Sources) (work : Work) (beside : List Giver) : Type 0 where
  pub of : IsWorkOf plan work
  pub accepted : is_accepted plan sources work.log.steps ≡ true
  pub working : IsWorking plan sources (work.agenda.givers ++ beside) (set_of work.log)

-- the steps begin with these
abbrev pub BeginsWith : List Step → List Step → Type 0
BeginsWith front steps = (more : List Step) × (steps ≡ front ++ more)

-- how many turns are left at most
abbrev pub turns_of : Plan → Work → ℕ
turns_of plan work = turns_left plan (set_of work.log) work.agenda.givers

-- these conclusions are what is found by the giver
abbrev pub WasFound : Plan → Sources → Work → Giver → List Conclusion → Type 0
WasFound plan sources work giver conclusions =
    found_from plan sources (seen_by work.log) giver ≡ concluding conclusions

-- an atom that a giver of the plan gives may come next to steps, if what stands stays clear: it follows from its
-- premises, for which there are cells, must stand, and wakes the giver
pub record MayCome (plan : Plan) (sources : Sources) (steps : List Step) (giver : Giver) (atom : Atom)
    (premises : List Atom) : Type 0 where
  pub next : IsNext plan sources steps atom (origin_of sources giver) premises
  pub few : length premises ≤ own_bound plan (place_for atom)
  pub forced : IsForced plan sources (atom ∷ [])
  pub giver_there : has same_giver (givers_of plan) giver ≡ true
  pub of : (things : List Thing) → HoldsWhatIsWritten plan things → touches_one plan things giver ≡ true
      → has_thing things (thing_of atom) ≡ true
  pub wakes : (set : List Atom) → Within same_atom (set_with (concluded steps)) set
      → is_woken plan set atom giver ≡ true

-- whether the giver is asked again, or is quiet at what stands
abbrev pub is_asked_or_quiet : Plan → Sources → Giver → Work → Bool
is_asked_or_quiet plan sources giver work =
    has same_giver work.agenda.givers giver || is_quiet plan sources (set_of work.log) giver

-- the work goes on with steps that came, if any did: with no more turns left than were; the giver at hand is asked
-- again or quiet, if the atom came, and nothing changed, if it stood
pub record HasCome (plan : Plan) (sources : Sources) (giver : Giver) (atom : Atom) (old new : Work) : Type 0 where
  pub going : IsGoing plan sources new (giver ∷ [])
  pub more : List Step
  pub grown : new.log.steps ≡ old.log.steps ++ more
  pub fewer : turns_of plan new ≤ turns_of plan old
  pub calm : new.breaker ≡ old.breaker
  pub wait_on : Within same_giver old.agenda.givers new.agenda.givers
  pub waits : says (seen_by old.log) atom ≡ false → is_asked_or_quiet plan sources giver new ≡ true
  pub unchanged : says (seen_by old.log) atom ≡ true → new ≡ old
  pub spends : Spends plan giver old new

-- something contradicts, perhaps after steps that came: settling is broken, and what is kept of it refutes the sources
pub record IsBrokenOff (plan : Plan) (sources : Sources) (giver : Giver) (old new : Work) : Type 0 where
  pub going : IsGoing plan sources new (giver ∷ [])
  pub grown : BeginsWith old.log.steps new.log.steps
  pub spends : Spends plan giver old new
  pub giver_there : has same_giver (givers_of plan) giver ≡ true
  pub breaks : settlement_of plan sources ≡ broken
  pub blames : Blames plan sources (clash_in new.log.steps new.breaker)

-- how it ends to conclude an atom
abbrev pub Concludes : Plan → Sources → Giver → Atom → Work → Work → Turn → Type 0
Concludes plan sources giver atom old new turns.Done = HasCome plan sources giver atom old new
Concludes plan sources giver atom old new turns.Broken = IsBrokenOff plan sources giver old new

-- the work goes on without the giver at hand: what it says stands, or it is asked again
pub record HasGoneOn (plan : Plan) (sources : Sources) (giver : Giver) (old new : Work) : Type 0 where
  pub going : IsGoing plan sources new []
  pub grown : BeginsWith old.log.steps new.log.steps
  pub spends : Spends plan giver old new
  pub fewer : turns_of plan new ≤ turns_of plan old
  pub calm : new.breaker ≡ old.breaker

-- how a turn ends
abbrev pub Ends : Plan → Sources → Giver → Work → Work → Turn → Type 0
Ends plan sources giver old new turns.Done = HasGoneOn plan sources giver old new
Ends plan sources giver old new turns.Broken = IsBrokenOff plan sources giver old new
