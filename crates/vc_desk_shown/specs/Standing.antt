-- How an open session stands: what its user chose, how the evaluation of that ended, and the status that tells it.
use Rattle.std.specs.Prelude.{◌≡◌}
use Rattle.vc_plan.specs.declared.atoms.Culprit.{Culprit}
use Rattle.vc_plan.specs.declared.atoms.Outcome.{Outcome}
use Rattle.vc_plan.specs.declared.atoms.Outcome.TheVariants.{Broken, Settled}
use Rattle.vc_plan.specs.declared.plans.Plan.{Plan}
use Rattle.vc_plan.specs.declared.shown.Status.{Status}
use Rattle.vc_plan.specs.declared.shown.Status.TheVariants.{Contradiction}
use Rattle.vc_plan.specs.Evaluate.{Evaluated, broken_at, evaluation_of, reached}
use Rattle.vc_plan_reasons.specs.Blaming.{IsStatus}
use Rattle.vc_plan_users.specs.Choosing.{Chosen, users_of}
use Rattle.vc_session.specs.Sessions.{Opened, outcome_of}

-- what the user chose, and how its evaluation ended. Where a stage is broken several may be to blame; the outcome says
-- whom the session blames, until it is edited again
pub record Standing : Type 0 where
  pub chosen : Chosen
  pub outcome : Outcome

-- whom the status names is whom the outcome blames; where no stage is broken the outcome blames nobody
abbrev pub TellsOutcome : Evaluated → Outcome → Status → Type 0
TellsOutcome (broken_at k entries) outcome status =
    (culprit : Culprit) × (outcome ≡ Broken culprit) × (status ≡ Contradiction culprit)
TellsOutcome (reached sets entries) outcome status = outcome ≡ Settled

-- the status of what is chosen that tells the outcome
pub record StandsAs (plan : Plan) (standing : Standing) (status : Status) : Type 0 where
  pub is : IsStatus plan (users_of standing.chosen) status
  pub tells : TellsOutcome (evaluation_of plan (users_of standing.chosen)) standing.outcome status

-- how a session stands
abbrev pub standing_of : Opened → Standing
standing_of session =
    record { chosen = session.users; outcome = outcome_of session.stages session.stages.broken }
