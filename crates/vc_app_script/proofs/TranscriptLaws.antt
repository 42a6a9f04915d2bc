-- Laws of transcripts: one line more, whole or cut short.
use Rattle.std.proofs.Common.{◌≡◌, ℕ, false, List, [], ◌∷◌, ◌++◌, sym, ap, subst, ◌∙◌, append_assoc, append-nil, refl}
use Rattle.std.proofs.Common.{Option}
use Rattle.std.specs.Io.KnownBytes.{Appends}
use Rattle.std.proofs.KnownBytes.{Appends-trans}
use Rattle.vc_base.proofs.RunLaws.{Run-push}
use Rattle.vc_outside.specs.Keepers.{Texts}
use Rattle.vc_plan.specs.declared.plans.Plan.{Plan}
use Rattle.vc_wire_requests.specs.declared.request.Request.{Request}
use Rattle.vc_wire_replies.specs.Replies.{reply_text}
use Rattle.vc_wire_replies.specs.declared.reply.Reply.{Reply}
use Rattle.vc_desk.specs.Desks.{Kept, state_of}
use Rattle.vc_desk.specs.States.{State}
use Rattle.vc_app_script.specs.Script.{lines_of, is_skipped}
use Rattle.vc_app_script.specs.Transcript.{asked_by, RepliesAsked, AnswersAsked, LeavesAsked, AnswersLine, Transcript}
use Rattle.vc_app_script.specs.Transcript.{LineStands, done_unsaid, StandsAt, LineDone, LineUnsaid, LineCut, IsAnswered}
use Rattle.vc_app_script.specs.Transcript.{IsAnsweredSoFar, IsCutShort}

-- the text of a reply is an answer
pub reply_leaves : (plan : Plan) (state : State) (request : Option Request) (reply : Reply) (next : State)
    → RepliesAsked plan state request reply next → LeavesAsked plan state request next
reply_leaves plan state request reply next replies = (reply_text plan reply, (reply, replies, refl))

-- a line that isn't skipped is answered as its request is
pub line_answer : (plan : Plan) (state : State) (line : List ℕ) (request : Option Request) (text : List ℕ)
    (next : State)
    → is_skipped line ≡ false → request ≡ asked_by line → AnswersAsked plan state request text next
    → AnswersLine plan state line text next
line_answer plan state line request text next skipped asked answer =
    rw skipped (subst (λ r. AnswersAsked plan state r text next) asked answer)

-- where some answer was made to a line that isn't skipped, the state is that after the line
pub line_unsaid : (plan : Plan) (state : State) (line : List ℕ) (request : Option Request) (next : State)
    → is_skipped line ≡ false → request ≡ asked_by line → LeavesAsked plan state request next
    → LineStands plan state line next
line_unsaid plan state line request next skipped asked answer =
    done_unsaid answer.0 (line_answer plan state line request answer.0 next skipped asked answer.1)

-- the state of a desk beside its keeper
abbrev pub state_beside : {Keeper : Type 0} → (Keeper → Option Texts) → (Keeper → ℕ) → Kept → Keeper → State
state_beside texts faults desk keeper = state_of desk.sessions (texts keeper) (faults keeper)

-- what is so far, from the state before
pub record SoFar (plan : Plan) (script left : List ℕ) (before state : State) (old new : Option (List ℕ)) : Type 0 where
  pub done : List (List ℕ)
  pub lines : lines_of script ≡ done ++ lines_of left
  pub bytes : List ℕ
  pub transcript : Transcript plan before done bytes state
  pub written : Appends old new bytes

pub all_done : (plan : Plan) (script left : List ℕ) (before state : State) (old new : Option (List ℕ))
    → SoFar plan script left before state old new → lines_of left ≡ [] → IsAnswered plan script before state old new
all_done plan script left before state old new s none = record {
  bytes = s.bytes;
  transcript = subst (λ ls. Transcript plan before ls s.bytes state)
      (sym (s.lines ∙ ap (λ ls. s.done ++ ls) none ∙ append-nil s.done)) s.transcript;
  written = s.written;
}

-- one line more, by a desk that has the plan
module _ (plan own : Plan) (script left : List ℕ) (before state : State) (old new : Option (List ℕ))
    (line later : List ℕ) (next : State) (newer : Option (List ℕ)) (s : SoFar plan script left before state old new)
    (first : lines_of left ≡ line ∷ lines_of later)
    (same : own ≡ plan) where
  pub so_far_push : LineDone own state line next new newer → SoFar plan script later before next old newer
  so_far_push made =
      let d : LineDone plan state line next new newer
      = subst (λ p. LineDone p state line next new newer) same made in
      record {
        done = s.done ++ line ∷ [];
        lines = s.lines ∙ ap (λ ls. s.done ++ ls) first ∙ sym (append_assoc s.done (line ∷ []) (lines_of later));
        bytes = s.bytes ++ d.bytes;
        transcript = Run-push (AnswersLine plan) before s.done line s.bytes state d.bytes next s.transcript d.answer;
        written = Appends-trans old new newer s.bytes d.bytes s.written d.written;
      }

  pub some_done : LineUnsaid own state line next new newer → IsAnsweredSoFar plan script before next old newer
  some_done made =
      let d : LineUnsaid plan state line next new newer
      = subst (λ p. LineUnsaid p state line next new newer) same made in
      record {
        done = s.done;
        left = lines_of left;
        lines = s.lines;
        bytes = s.bytes;
        last = state;
        transcript = s.transcript;
        stands = subst (λ ls. StandsAt plan state ls next) (sym first) d.stands;
        written = subst (λ b. Appends old newer b) (append-nil s.bytes)
            (Appends-trans old new newer s.bytes [] s.written d.written);
      }

  pub cut_short : LineCut own state line next new newer → IsCutShort plan script before next old newer
  cut_short made =
      let d : LineCut plan state line next new newer = subst (λ p. LineCut p state line next new newer) same made in
      record {
        done = s.done;
        line = line;
        left = lines_of later;
        lines = s.lines ∙ ap (λ ls. s.done ++ ls) first;
        bytes = s.bytes;
        last = state;
        transcript = s.transcript;
        front = d.front;
        rest = d.rest;
        answer = d.answer;
        written = Appends-trans old new newer s.bytes d.front s.written d.written;
      }
