-- What a net keeps of its work when sources change, before those wait for which they differ.
use Rattle.std.specs.Prelude.{◌≡◌, List, None}
use Rattle.vc_plan.specs.declared.plans.Plan.{Plan}
use Rattle.vc_plan.specs.Sources.{Sources}
use Rattle.vc_plan_reasons.specs.Checking.{concluded}
use Rattle.vc_plan_reasons.specs.Keeping.{kept_of}
use Rattle.vc_net_log.specs.Going.{WereTaken}
use Rattle.vc_net_standing.specs.declared.standing.Fact.{Fact}
use Rattle.vc_net_standing.specs.Standing.{atoms_of}
use Rattle.vc_net_waking.specs.Waking.{with_givers}
use Rattle.vc_net_going.specs.Renewing.{dropped_wake}
use Rattle.vc_net_going.specs.Working.{IsWorkOf}
use Rattle.vc_net_going.specs.declared.work.Work.{Work}

-- what is kept of the log stays, of the facts that were taken from it those that are dropped wake whom they wake with
-- the new sources, and nothing contradicts
pub record HasKept (plan : Plan) (old new : Sources) (before after : Work) : Type 0 where
  pub of : IsWorkOf plan after
  pub taken : List Fact
  pub were : WereTaken before.log.steps (kept_of old new before.log.steps) taken
  pub kept : after.log.steps ≡ kept_of old new before.log.steps
  pub asked : after.agenda
      ≡ with_givers before.agenda
      (dropped_wake plan new (concluded (kept_of old new before.log.steps)) (atoms_of taken))
  pub calm : after.breaker.culprit ≡ None
