-- A net: its sources, what it works on, and how settling ended.
use Rattle.std.specs.Prelude.{◌≡◌, [], true, Option, None, Some}
use Rattle.vc_plan.specs.declared.atoms.Culprit.{Culprit}
use Rattle.vc_plan.specs.declared.atoms.Outcome.{Outcome}
use Rattle.vc_plan.specs.declared.atoms.Outcome.TheVariants as outcomes
use Rattle.vc_plan.specs.declared.plans.Plan.{Plan}
use Rattle.vc_plan.specs.Sources.{Sources}
use Rattle.vc_plan_reasons.specs.Fitting.{sources_fit}
use Rattle.vc_rule.specs.Rooms.{rooms_of}
use Rattle.vc_rule_yield.specs.Yielding.{Rooms}
use Rattle.vc_net_going.specs.declared.work.Work.{Work}
use Rattle.vc_net_going.specs.Going.{IsGoing}
pub use Rattle.vc_net_going.specs.Differing.{AreFor}

-- the sources, what is worked on, and how much room there is for what a giver says
pub record Netted : Type 0 where
  pub sources : Sources
  pub work : Work
  pub rooms : Rooms

-- what doesn't change is the plan's, and the work has gone on with the net's sources, which fit the plan
pub record IsNetOf (plan : Plan) (net : Netted) : Type 0 where
  pub going : IsGoing plan net.sources net.work []
  pub rooms : net.rooms ≡ rooms_of plan
  pub sources : AreFor plan net.sources
  pub fits : sources_fit plan net.sources ≡ true

-- the outcome of whom to blame, if anything broke it
abbrev pub outcome_by : Option Culprit → Outcome
outcome_by None = outcomes.Settled
outcome_by (Some culprit) = outcomes.Broken culprit
