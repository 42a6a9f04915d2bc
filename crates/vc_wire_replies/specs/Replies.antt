-- The texts of replies.
use Rattle.std.specs.Prelude.{ℕ, List, ◌++◌, codes}
use Rattle.vc_plan.specs.declared.plans.Plan.{Plan}
use Rattle.vc_plan.specs.declared.shown.Status.{Status}
use Rattle.vc_wire_replies.specs.Chains.{chain_text, clash_text, culprit_line, whole_text}
use Rattle.vc_wire_replies.specs.Culprits.{status_text}
use Rattle.vc_wire_replies.specs.declared.reply.Refusal.{Refusal}
use Rattle.vc_wire_replies.specs.declared.reply.Refusal.TheVariants as refusals
use Rattle.vc_wire_replies.specs.declared.reply.Reply.{Reply}
use Rattle.vc_wire_replies.specs.declared.reply.Reply.TheVariants as replies
use Rattle.vc_wire_replies.specs.declared.reply.SavedRefusal.{SavedRefusal}
use Rattle.vc_wire_replies.specs.declared.reply.SavedRefusal.TheVariants as saved

-- the number and the name of a refusal; of what is saved its own number follows
abbrev pub saved_refusal_text : SavedRefusal → List ℕ
saved_refusal_text saved.NotJson = codes "9 SavedRefused 1"
saved_refusal_text saved.Shape = codes "9 SavedRefused 2"
saved_refusal_text saved.OtherModel = codes "9 SavedRefused 3"
saved_refusal_text saved.UnknownName = codes "9 SavedRefused 4"

abbrev pub refusal_text : Refusal → List ℕ
refusal_text refusals.NoSession = codes "1 NoSession"
refusal_text refusals.TooManySessions = codes "2 TooManySessions"
refusal_text refusals.UnknownInstance = codes "3 UnknownInstance"
refusal_text refusals.UnknownCharacteristic = codes "4 UnknownCharacteristic"
refusal_text refusals.NotInList = codes "5 NotInList"
refusal_text refusals.NotHere = codes "6 NotHere"
refusal_text refusals.NotSet = codes "7 NotSet"
refusal_text refusals.NothingSaved = codes "8 NothingSaved"
refusal_text (refusals.SavedRefused fault) = saved_refusal_text fault
refusal_text refusals.KeeperFault = codes "10 KeeperFault"
refusal_text refusals.OutOfMemory = codes "11 OutOfMemory"
refusal_text refusals.NoConflict = codes "12 NoConflict"
refusal_text refusals.NotInferred = codes "13 NotInferred"
refusal_text refusals.NameTaken = codes "14 NameTaken"

abbrev pub refused_text : Refusal → List ℕ
refused_text refusal = codes "refused " ++ (refusal_text refusal ++ codes "\n")

-- how the session stands that is open, edited or loaded
abbrev pub done_text : Plan → Status → List ℕ
done_text plan status = codes "ok " ++ (status_text plan status ++ codes "\n")

-- how it stands, the lines that are shown, and `end`
abbrev pub status_line : Plan → Status → List ℕ
status_line plan status = codes "status " ++ (status_text plan status ++ codes "\n")

abbrev pub listed_text : Plan → Status → List ℕ → List ℕ
listed_text plan status lines = status_line plan status ++ (lines ++ codes "end\n")

-- the lines of a reply
abbrev pub reply_text : Plan → Reply → List ℕ
reply_text plan (replies.Done status) = done_text plan status
reply_text plan replies.Closed = codes "ok closed\n"
reply_text plan replies.Saved = codes "ok saved\n"
reply_text plan replies.Forgotten = codes "ok forgotten\n"
reply_text plan (replies.Shown status rows) = listed_text plan status rows
reply_text plan (replies.Chain steps) = chain_text plan steps
reply_text plan (replies.Whole steps) = whole_text plan steps
reply_text plan (replies.Clashed clash) = clash_text plan clash
reply_text plan (replies.Hidden culprit) = culprit_line plan culprit
reply_text plan (replies.BillShown status lines) = listed_text plan status lines
reply_text plan (replies.RoutingShown status lines) = listed_text plan status lines
reply_text plan (replies.Refused refusal) = refused_text refusal
reply_text plan replies.NotARequest = codes "refused 0 NotARequest\n"
