-- An edit of one session spends what the session's nets do.
use Rattle.std.proofs.Common.{◌≡◌, ◌∙◌, ℕ, List, ap, refl}
use Rattle.std.specs.Prelude.{Some, Result, Ok, Err}
use Rattle.std.specs.FinMap.{get, insert}
use Rattle.vc_plan.specs.declared.plans.Plan.{Plan}
use Rattle.vc_session.specs.Costing.{EditCosts}
use Rattle.vc_session.specs.Sessions.{Opened}
use Rattle.vc_wire_replies.specs.declared.reply.Refusal.{Refusal}
use Rattle.vc_wire_replies.specs.declared.reply.Reply.{Reply}
use Rattle.vc_desk.specs.Costing.{SpendsOnEdit, edited, unedited}
use Rattle.vc_desk_shown.specs.Standing.{standing_of}
use Rattle.vc_desk.specs.Desks.{RepliesTo}
use Rattle.vc_desk.specs.States.{ByName}
use Rattle.vc_desk.proofs.OpenLaws.{put_same}

pub edits_spend : (plan : Plan) (name : List ℕ) (old : ByName Opened) (session new : Opened)
    (result : Result Unit Refusal) (reply : Reply) (before after : ℕ) → get old name ≡ Some session
    → EditCosts plan session new result before after → RepliesTo plan (standing_of new) result reply
    → SpendsOnEdit plan name old (insert old name new) reply before after
edits_spend plan name old session new (Ok done) reply before after there cost replies =
    edited replies.0 session new replies.2 there refl cost
edits_spend plan name old session new (Err refusal) reply before after there cost replies =
    unedited refusal replies (ap (insert old name) cost.0 ∙ put_same old name session there) cost.1
