-- How an edit of a session is answered.
use Rattle.std.specs.Prelude.{◌≡◌, List, ℕ, Result, Ok, Err}
use Rattle.vc_plan.specs.declared.plans.Plan.{Plan}
use Rattle.vc_plan.specs.declared.shown.Status.{Status}
use Rattle.vc_plan_users.specs.Choosing.{Chosen}
use Rattle.vc_wire_replies.specs.declared.reply.Refusal.{Refusal}
use Rattle.vc_wire_replies.specs.declared.reply.Reply.{Reply}
use Rattle.vc_wire_replies.specs.declared.reply.Reply.TheVariants.{Done, Refused}
use Rattle.vc_desk_shown.specs.Standing.{Standing, StandsAs}
use Rattle.vc_desk.specs.States.{OpenSessions, with_session}

-- the session of this name becomes one in which this is chosen, and the reply says how it stands
pub record Becomes (plan : Plan) (sessions : OpenSessions) (name : List ℕ) (chosen : Chosen) (reply : Reply)
    (next : OpenSessions) : Type 0 where
  pub standing : Standing
  pub status : Status
  pub its : standing.chosen ≡ chosen
  pub stands : StandsAs plan standing status
  pub said : reply ≡ Done status
  pub put : next ≡ with_session sessions name standing

-- an edit is refused, and nothing changes; or it is done
abbrev pub EditsTo : Plan → OpenSessions → List ℕ → Result Chosen Refusal → Reply → OpenSessions → Type 0
EditsTo plan sessions name (Err refusal) reply next = (reply ≡ Refused refusal) × (next ≡ sessions)
EditsTo plan sessions name (Ok after) reply next = Becomes plan sessions name after reply next
