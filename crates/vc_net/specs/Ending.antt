-- How the work of a net ends.
use Rattle.std.specs.Prelude.{◌≡◌, ◌<◌, ◌^◌, true, List, [], length, option_map, Option, None, Some}
use Rattle.vc_base.specs.Rounds.{broken, settled}
use Rattle.vc_base.specs.Sets.{has}
use Rattle.vc_plan.specs.declared.atoms.Atom.{Atom}
use Rattle.vc_plan.specs.declared.atoms.Clash.{Clash}
use Rattle.vc_plan.specs.declared.plans.Plan.{Plan}
use Rattle.vc_plan.specs.Domains.{atom_count}
use Rattle.vc_plan.specs.Seen.{same_atom}
use Rattle.vc_plan.specs.Settle.{settlement_of}
use Rattle.vc_plan.specs.Sources.{Sources}
use Rattle.vc_plan.specs.Valid.{IsValid}
use Rattle.vc_plan_reasons.specs.Checking.{is_whole}
use Rattle.vc_net_chains.specs.Explaining.{ExplainsAll, ExplainsAtom, ExplainsBreak}
use Rattle.vc_plan_reasons.specs.Refuting.{refutes}
use Rattle.vc_plan_reasons.specs.Trimming.{trimmed_clash}
use Rattle.vc_net_chains.specs.Telling.{chain_in}
use Rattle.vc_net_log.specs.Logs.{set_of}
use Rattle.vc_net_going.specs.declared.work.Work.{Work}
use Rattle.vc_net_going.specs.Breaking.{clash_in}
use Rattle.vc_net_going.specs.Going.{IsGoing}

-- the clash of its steps, if anything broke it
abbrev pub clash_of : Work → Option Clash
clash_of work = clash_in work.log.steps work.breaker

-- settling with the sources ends at just what stands by the log, which is whole, where nothing broke it; else it is
-- broken, and the clash refutes them
abbrev pub EndsAs : Plan → Sources → Work → Option Clash → Type 0
EndsAs plan sources work None =
    (end : List Atom) × (settlement_of plan sources ≡ settled end)
    × ((atom : Atom) → has same_atom end atom ≡ has same_atom (set_of work.log) atom)
    × (is_whole plan sources work.log.steps ≡ true)
EndsAs plan sources work (Some clash) = (settlement_of plan sources ≡ broken) × (refutes plan sources clash ≡ true)

-- the work came to an end: then too whoever isn't asked again has nothing more to say
pub record IsSettled (plan : Plan) (sources : Sources) (work : Work) : Type 0 where
  pub going : IsGoing plan sources work []
  pub ends : EndsAs plan sources work (clash_of work)

-- the log of a plan's work has fewer steps than the plan has atoms
abbrev pub LogsAreFew : Type 0
LogsAreFew = (plan : Plan) (sources : Sources) (work : Work) → IsGoing plan sources work []
    → length work.log.steps < atom_count plan

-- and of a valid plan's fewer than a number of 31 bits tells
abbrev pub LogsAreShort : Type 0
LogsAreShort = (plan : Plan) (sources : Sources) (work : Work) → IsValid plan → IsGoing plan sources work []
    → length work.log.steps < 2 ^ 31

-- then the log explains all that stands, each atom's chain explains it, and what is left of the clash explains the
-- break
abbrev pub LogsExplain : Type 0
LogsExplain = (plan : Plan) (sources : Sources) (work : Work) → IsSettled plan sources work → clash_of work ≡ None
    → ExplainsAll plan sources (Some work.log.steps)

abbrev pub ChainsExplain : Type 0
ChainsExplain = (plan : Plan) (sources : Sources) (work : Work) (atom : Atom) → IsSettled plan sources work
    → ExplainsAtom plan sources (set_of work.log) atom (chain_in work.log.steps atom)

abbrev pub ClashesExplain : Type 0
ClashesExplain = (plan : Plan) (sources : Sources) (work : Work) (clash : Clash) → IsSettled plan sources work
    → clash_of work ≡ Some clash → ExplainsBreak plan sources (option_map trimmed_clash (clash_of work))
