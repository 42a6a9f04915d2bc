-- What a session that is settled says, by the evaluation of what the user chose; and that a session stands in one way.
use Rattle.std.specs.Prelude.{◌≡◌, List, length, map, None}
use Rattle.vc_plan.specs.declared.atoms.Atom.{Atom}
use Rattle.vc_plan.specs.declared.plans.Plan.{Plan}
use Rattle.vc_plan.specs.declared.shown.Status.{Status}
use Rattle.vc_plan.specs.Domains.{numbers_below}
use Rattle.vc_plan.specs.Evaluate.{evaluation_of, is_late, last_set, reached}
use Rattle.vc_plan.specs.Seen.{seen_of}
use Rattle.vc_plan.specs.Valid.{IsValid}
use Rattle.vc_plan_users.specs.Choosing.{users_of}
use Rattle.vc_plan_values.specs.Computing.{LiesInGrains}
use Rattle.vc_session.specs.Sessions.{IsSessionOf, Opened, last_seen}
use Rattle.vc_desk_shown.specs.Standing.{Standing, StandsAs}

-- the evaluation came to an end, the session says just what the last set says, values lie in grains, and who is late is
-- flagged
pub record HasReached (plan : Plan) (session : Opened) : Type 0 where
  pub sets : List (List Atom)
  pub whole : evaluation_of plan (users_of session.users) ≡ reached sets session.stages.overlay
  pub seen : last_seen session.stages ≡ seen_of (last_set plan sets)
  pub lies : LiesInGrains plan (last_seen session.stages)
  pub late : session.stages.late ≡ map (is_late plan sets) (numbers_below (length plan.slots))

abbrev pub SettledSessionsReach : Type 0
SettledSessionsReach = (plan : Plan) (session : Opened) → IsValid plan → IsSessionOf plan session
    → session.stages.broken ≡ None → HasReached plan session

-- of all statuses one tells how a session stands
abbrev pub StandingsHaveOneStatus : Type 0
StandingsHaveOneStatus = (plan : Plan) (standing : Standing) (one other : Status) → StandsAs plan standing one
    → StandsAs plan standing other → one ≡ other
