-- What is told of a session, and the reply that tells it.
use Rattle.std.specs.Prelude.{◌≡◌, ℕ, List}
use Rattle.vc_plan.specs.declared.plans.Plan.{Plan}
use Rattle.vc_plan.specs.declared.shown.Status.{Status}
use Rattle.vc_plan.specs.Evaluate.{Users}
use Rattle.vc_wire_replies.specs.declared.reply.Refusal.TheVariants.{OutOfMemory}
use Rattle.vc_wire_replies.specs.declared.reply.Reply.{Reply}
use Rattle.vc_wire_replies.specs.declared.reply.Reply.TheVariants.{BillShown, Refused, RoutingShown, Shown}
use Rattle.vc_desk_shown.specs.Shown.{bill_shown, routing_shown, shown}
use Rattle.vc_desk_shown.specs.Standing.{Standing, StandsAs}
use Rattle.vc_desk_session.specs.declared.telling.Told.{Told}
use Rattle.vc_desk_session.specs.declared.telling.Told.TheVariants.{Bill, Routing, Rows}

abbrev pub text_told : Told → Plan → Users → List ℕ
text_told Rows = shown
text_told Bill = bill_shown
text_told Routing = routing_shown

abbrev pub told_as : Told → Status → List ℕ → Reply
told_as Rows = Shown
told_as Bill = BillShown
told_as Routing = RoutingShown

-- what is told: how a session stands, and a text that what is chosen determines; memory may be wanting
pub data Tells (plan : Plan) (standing : Standing) (tell : Status → List ℕ → Reply) (text : List ℕ) (reply : Reply) :
    Type 0 where
  exhausted : reply ≡ Refused OutOfMemory → Tells plan standing tell text reply
  told : (status : Status) → StandsAs plan standing status → reply ≡ tell status text
      → Tells plan standing tell text reply
