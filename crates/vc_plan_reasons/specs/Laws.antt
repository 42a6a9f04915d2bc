-- Laws over the definitions of reasons, of what is kept and of what rules read and write.
use Rattle.std.specs.Prelude.{◌≡◌, ◌≤◌, ℕ, suc, true, List, ◌++◌, length, map, is_none, slice_get, Some}
use Rattle.std.specs.List.{IsDistinct, filter}
use Rattle.vc_base.specs.Kept.{IsLeft}
use Rattle.vc_base.specs.Rounds.{broken, settled, atoms_of}
use Rattle.vc_base.specs.Sets.{has, Within}
use Rattle.vc_base.specs.Spreading.{IsSpread}
use Rattle.vc_plan.specs.declared.atoms.Atom.{Atom}
use Rattle.vc_plan.specs.declared.atoms.Clash.{Clash}
use Rattle.vc_plan.specs.declared.atoms.Culprit.{Culprit}
use Rattle.vc_plan.specs.declared.atoms.Culprit.TheVariants.{Rule, Written, Hidden, HiddenSet}
use Rattle.vc_plan.specs.declared.atoms.Step.{Step}
use Rattle.vc_plan.specs.declared.plans.Plan.{Plan}
use Rattle.vc_plan.specs.declared.rules.Kind.TheVariants.{Last, Line}
use Rattle.vc_plan.specs.declared.rules.Rule.{Rule as PlanRule}
use Rattle.vc_plan.specs.Clear.{is_clear}
use Rattle.vc_plan.specs.Gives.{Giver, by_rule, gives, giver_says}
use Rattle.vc_plan.specs.Laws.{IsClosed}
use Rattle.vc_plan.specs.Seen.{Seen, same_atom, seen_of}
use Rattle.vc_plan.specs.Settle.{base, settlement_of}
use Rattle.vc_plan.specs.Sources.{Sources, entry_of}
use Rattle.vc_plan.specs.Valid.{IsValid}
use Rattle.vc_plan_reasons.specs.Checking.{concluded, first_refused_step, is_accepted, is_by, is_chain_for, is_whole}
use Rattle.vc_plan_reasons.specs.Checking.{set_with, step_form}
use Rattle.vc_plan_reasons.specs.Keeping.{changed, is_gone, kept_of}
use Rattle.vc_plan_reasons.specs.Refuting.{refutes}
use Rattle.vc_plan_reasons.specs.Things.{Thing, var_at, same_thing, has_thing, thing_of, size_of, giver_reads}
use Rattle.vc_plan_reasons.specs.Things.{giver_writes}
use Rattle.vc_plan_reasons.specs.Work.{links_of, reach_of}

-- a list is accepted exactly where no step is the first that isn't
abbrev pub AcceptedUnrefused : Type 0
AcceptedUnrefused =
    (plan : Plan) (sources : Sources) (steps : List Step)
    → is_accepted plan sources steps ≡ is_none (first_refused_step plan sources steps)

-- what an accepted list concludes stands in every closed set in which the root is here
abbrev pub ConclusionsStand : Type 0
ConclusionsStand = (plan : Plan) (sources : Sources) (steps : List Step) (closed : List Atom)
    → is_accepted plan sources steps ≡ true → IsClosed plan sources closed → Within same_atom base closed
    → Within same_atom (concluded steps) closed

-- an atom that has a chain stands where settling ends
abbrev pub ChainsStand : Type 0
ChainsStand = (plan : Plan) (sources : Sources) (atom : Atom) (steps : List Step) (set : List Atom)
    → is_chain_for plan sources atom steps ≡ true → settlement_of plan sources ≡ settled set
    → has same_atom set atom ≡ true

-- a whole list concludes just what settling ends at
abbrev pub WholeSettles : Type 0
WholeSettles = (plan : Plan) (sources : Sources) (steps : List Step) → is_whole plan sources steps ≡ true
    → (set : List Atom) × (settlement_of plan sources ≡ settled set)
    × ((atom : Atom) → has same_atom set atom ≡ has same_atom (set_with (concluded steps)) atom)

-- where a clash refutes, settling is broken
abbrev pub RefutingBreaks : Type 0
RefutingBreaks =
    (plan : Plan) (sources : Sources) (clash : Clash) → refutes plan sources clash ≡ true
    → settlement_of plan sources ≡ broken

-- the culprit is a rule of the plan that is neither of a last grain nor of a line, and so a constraint's; or a
-- statement that wrote an entry of the sources
abbrev pub IsGuilty : Plan → Sources → Culprit → Type 0
IsGuilty plan sources (Rule r) =
    (rule : PlanRule) × (slice_get plan.rules r ≡ Some rule)
    × ((v : ℕ) → rule.kind ≡ Last v → ⊥) × ((i : ℕ) → rule.kind ≡ Line i → ⊥)
IsGuilty plan sources (Written procedure statement) = (v : ℕ) × (is_by procedure statement (entry_of sources v) ≡ true)
IsGuilty plan sources (Hidden dependency v) = ⊥
IsGuilty plan sources (HiddenSet dependency set) = ⊥

-- so is the culprit of a clash that refutes: never the user, nor the rule of a last grain or of a line
abbrev pub RefutingBlames : Type 0
RefutingBlames =
    (plan : Plan) (sources : Sources) (clash : Clash) → refutes plan sources clash ≡ true
    → IsGuilty plan sources clash.culprit

-- what is kept of a list that was accepted is accepted with the new sources
abbrev pub KeptIsAccepted : Type 0
KeptIsAccepted = (plan : Plan) (old new : Sources) (log : List Step) → is_accepted plan old log ≡ true
    → is_accepted plan new (kept_of old new log) ≡ true

-- and it is what the least set of dropped steps leaves: those whose source differs, and those that cite a dropped one
abbrev pub KeptIsLeft : Type 0
KeptIsLeft = (plan : Plan) (old new : Sources) (log : List Step) → is_accepted plan old log ≡ true
    → IsLeft step_form (is_gone old new) log (kept_of old new log)

-- two sets have the same atoms of the things
abbrev pub AreAlike : List Thing → List Atom → List Atom → Type 0
AreAlike things set other =
    (atom : Atom) → has_thing things (thing_of atom) ≡ true → has same_atom set atom ≡ has same_atom other atom

-- what a giver says is the same at two sets, of which the second is clear, with the same atoms of the things that it
-- reads;
-- this is what makes its premises enough
abbrev pub SaysLocally : Type 0
SaysLocally = (plan : Plan) (sources : Sources) (giver : Giver) (set other : List Atom)
    → is_clear plan other ≡ true → AreAlike (giver_reads plan giver) set other
    → giver_says plan sources giver (seen_of set) ≡ giver_says plan sources giver (seen_of other)

-- and what a rule says doesn't hang on the sources
abbrev pub RulesIgnoreSources : Type 0
RulesIgnoreSources = (plan : Plan) (sources others : Sources) (r : ℕ) (seen : Seen)
    → giver_says plan sources (by_rule r) seen ≡ giver_says plan others (by_rule r) seen

-- a giver gives the same at a set as at a clear one with the same atoms of the things that it reads or writes
abbrev pub GivesLocally : Type 0
GivesLocally = (plan : Plan) (sources : Sources) (giver : Giver) (set other : List Atom)
    → is_clear plan other ≡ true → AreAlike (giver_reads plan giver ++ giver_writes plan giver) set other
    → gives plan sources giver (seen_of set) ≡ gives plan sources giver (seen_of other)

-- and it gives atoms of the things that it writes alone
abbrev pub GivesWhatItWrites : Type 0
GivesWhatItWrites = (plan : Plan) (sources : Sources) (giver : Giver) (set : List Atom) (atom : Atom)
    → has same_atom (atoms_of (gives plan sources giver (seen_of set))) atom ≡ true
    → has_thing (giver_writes plan giver) (thing_of atom) ≡ true

-- of each thing a clear set in which no atom stands twice has at most as many atoms as the thing's size says
abbrev pub FewOfAThing : Type 0
FewOfAThing = (plan : Plan) (set : List Atom) (thing : Thing) → is_clear plan set ≡ true → IsDistinct same_atom set
    → length (filter (λ atom. same_thing (thing_of atom) thing) set) ≤ size_of plan thing

-- in a valid plan, whatever is dropped of an accepted log concludes an atom of a thing that the changed variables reach
abbrev pub DroppedIsReached : Type 0
DroppedIsReached = (plan : Plan) → IsValid plan → (old new : Sources) (log : List Step)
    → is_accepted plan old log ≡ true
    → (left : IsLeft step_form (is_gone old new) log (kept_of old new log)) (n : ℕ) (step : Step)
    → slice_get log n ≡ Some step → left.dropped (suc n) ≡ true
    → has_thing (reach_of plan (map var_at (changed plan old new))) (thing_of step.conclusion) ≡ true

-- what things reach is the least list that has them and all that a rule writes which reads one of it; it has each once
abbrev pub ReachIsLeast : Type 0
ReachIsLeast = (plan : Plan) (things : List Thing)
    → IsSpread (links_of plan) things (reach_of plan things)
    × IsDistinct same_thing (reach_of plan things)
    × ((all : List Thing) → IsSpread (links_of plan) things all → Within same_thing (reach_of plan things) all)
