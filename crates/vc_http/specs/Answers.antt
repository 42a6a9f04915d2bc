-- The responses to requests, by what the desk replies.
use Rattle.std.specs.Prelude.{ℕ, Bool, List, []}
use Rattle.vc_plan.specs.declared.plans.Plan.{Plan}
use Rattle.vc_wire_replies.specs.declared.reply.Refusal.{Refusal}
use Rattle.vc_wire_replies.specs.declared.reply.Refusal.TheVariants as refusals
use Rattle.vc_wire_replies.specs.declared.reply.Reply.{Reply}
use Rattle.vc_wire_replies.specs.declared.reply.Reply.TheVariants as replies
use Rattle.vc_wire_replies.specs.Replies.{reply_text}
use Rattle.vc_http_responses.specs.Responses.{response}

-- what isn't there is not found; a keeper that fails and want of memory may pass; the others are conflicts
abbrev pub refusal_status : Refusal → ℕ
refusal_status refusals.NoSession = 404
refusal_status refusals.UnknownInstance = 404
refusal_status refusals.UnknownCharacteristic = 404
refusal_status refusals.NothingSaved = 404
refusal_status refusals.KeeperFault = 503
refusal_status refusals.OutOfMemory = 503
refusal_status refusal = 409

abbrev pub reply_status : Reply → ℕ
reply_status (replies.Refused refusal) = refusal_status refusal
reply_status replies.NotARequest = 400
reply_status reply = 200

-- the response to a request, and whether the connection goes on behind it
abbrev pub answer : Plan → Reply → Bool → List ℕ
answer plan reply keep = response (reply_status reply) [] keep (reply_text plan reply)
