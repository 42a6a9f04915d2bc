-- What is written for the lines of a script.
use Rattle.std.specs.Prelude.{◌≡◌, ℕ, Bool, true, false, List, [], ◌∷◌, ◌++◌, length, nat_lt, Option, None, Some}
use Rattle.std.specs.Prelude.{if◌then◌else◌}
use Rattle.std.specs.Io.KnownBytes.{Appends}
use Rattle.vc_base.specs.Runs.{Run}
use Rattle.vc_plan.specs.declared.plans.Plan.{Plan}
use Rattle.vc_wire_requests.specs.Requests.{request_of}
use Rattle.vc_wire_requests.specs.declared.request.Request.{Request}
use Rattle.vc_wire_replies.specs.Replies.{reply_text}
use Rattle.vc_wire_replies.specs.declared.reply.Reply.{Reply}
use Rattle.vc_wire_replies.specs.declared.reply.Reply.TheVariants.{NotARequest}
use Rattle.vc_desk.specs.Answers.{Apply}
use Rattle.vc_desk.specs.States.{OpenSessions, State, kept, start_state}
use Rattle.vc_desk.specs.Keeping.{Keeping}
use Rattle.vc_app_script.specs.Script.{lines_of, is_skipped}

-- the most bytes of a line that may be a request
abbrev pub line_limit : ℕ
line_limit = 4096

-- the request of a line that isn't too long
abbrev pub asked_by : List ℕ → Option Request
asked_by line = if nat_lt line_limit (length line) then None else request_of line

-- the reply to a line that isn't skipped: that to its request, or that it is none
abbrev pub RepliesAsked : Plan → State → Option Request → Reply → State → Type 0
RepliesAsked plan state None reply next = (reply ≡ NotARequest) × (next ≡ state)
RepliesAsked plan state (Some request) reply next = Apply plan state request reply next

-- the text of the reply
abbrev pub AnswersAsked : Plan → State → Option Request → List ℕ → State → Type 0
AnswersAsked plan state request bytes next =
    (reply : Reply) × RepliesAsked plan state request reply next × (bytes ≡ reply_text plan reply)

-- some answer to the request leaves that state
abbrev pub LeavesAsked : Plan → State → Option Request → State → Type 0
LeavesAsked plan state request next = (bytes : List ℕ) × AnswersAsked plan state request bytes next

-- a skipped line is answered by nothing
abbrev pub AnswersBy : Plan → State → Bool → List ℕ → List ℕ → State → Type 0
AnswersBy plan state true line bytes next = (bytes ≡ []) × (next ≡ state)
AnswersBy plan state false line bytes next = AnswersAsked plan state (asked_by line) bytes next

-- one line of a script: from a state it writes these bytes and leaves that state
abbrev pub AnswersLine : Plan → State → List ℕ → List ℕ → State → Type 0
AnswersLine plan state line bytes next = AnswersBy plan state (is_skipped line) line bytes next

-- these lines, from a state, write these bytes and leave that state
abbrev pub Transcript : Plan → State → List (List ℕ) → List ℕ → State → Type 0
Transcript plan state lines bytes next = Run (AnswersLine plan) state lines bytes next

-- the state after a line that wasn't answered whole: that before it, or that after it
pub data LineStands (plan : Plan) (state : State) (line : List ℕ) (after : State) : Type 0 where
  untouched : after ≡ state → LineStands plan state line after
  done_unsaid : (bytes : List ℕ) → AnswersLine plan state line bytes after → LineStands plan state line after

-- the state is this one, or that after one line more
abbrev pub StandsAt : Plan → State → List (List ℕ) → State → Type 0
StandsAt plan state [] after = after ≡ state
StandsAt plan state (line ∷ later) after = LineStands plan state line after

-- all lines of the script are answered, from the state before to the state after
pub record IsAnswered (plan : Plan) (script : List ℕ) (before after : State) (old new : Option (List ℕ)) : Type 0 where
  pub bytes : List ℕ
  pub transcript : Transcript plan before (lines_of script) bytes after
  pub written : Appends old new bytes

-- the first lines of the script are answered, and no other; the state is that after these, or after one line more
pub record IsAnsweredSoFar (plan : Plan) (script : List ℕ) (before after : State)
    (old new : Option (List ℕ)) : Type 0 where
  pub done : List (List ℕ)
  pub left : List (List ℕ)
  pub lines : lines_of script ≡ done ++ left
  pub bytes : List ℕ
  pub last : State
  pub transcript : Transcript plan before done bytes last
  pub stands : StandsAt plan last left after
  pub written : Appends old new bytes

-- the first lines of the script are answered, and of the answer to the next line, after which the state is, a front was
-- written
pub record IsCutShort (plan : Plan) (script : List ℕ) (before after : State) (old new : Option (List ℕ)) : Type 0 where
  pub done : List (List ℕ)
  pub line : List ℕ
  pub left : List (List ℕ)
  pub lines : lines_of script ≡ done ++ (line ∷ left)
  pub bytes : List ℕ
  pub last : State
  pub transcript : Transcript plan before done bytes last
  pub front : List ℕ
  pub rest : List ℕ
  pub answer : AnswersLine plan last line (front ++ rest) after
  pub written : Appends old new (bytes ++ front)

-- the same with no session open at first, from what the keeper tells once it is begun to what it tells then: all lines,
-- the first lines, and the first lines with a front of the next
pub record AnswersAll (plan : Plan) (script : List ℕ) (k : Keeping) (old new : Option (List ℕ)) : Type 0 where
  pub last : OpenSessions
  pub answered : IsAnswered plan script (start_state k.saved_at_start k.faults_before)
      (kept last k.saved_after k.faults_after) old new

pub record AnswersSome (plan : Plan) (script : List ℕ) (k : Keeping) (old new : Option (List ℕ)) : Type 0 where
  pub last : OpenSessions
  pub answered : IsAnsweredSoFar plan script (start_state k.saved_at_start k.faults_before)
      (kept last k.saved_after k.faults_after) old new

pub record BreaksOff (plan : Plan) (script : List ℕ) (k : Keeping) (old new : Option (List ℕ)) : Type 0 where
  pub last : OpenSessions
  pub answered : IsCutShort plan script (start_state k.saved_at_start k.faults_before)
      (kept last k.saved_after k.faults_after) old new

-- the line is answered, and the answer written
pub record LineDone (plan : Plan) (state : State) (line : List ℕ) (next : State)
    (old new : Option (List ℕ)) : Type 0 where
  pub bytes : List ℕ
  pub answer : AnswersLine plan state line bytes next
  pub written : Appends old new bytes

-- nothing is written of the line's answer
pub record LineUnsaid (plan : Plan) (state : State) (line : List ℕ) (next : State)
    (old new : Option (List ℕ)) : Type 0 where
  pub stands : LineStands plan state line next
  pub written : Appends old new []

-- a front of the line's answer is written
pub record LineCut (plan : Plan) (state : State) (line : List ℕ) (next : State) (old new : Option (List ℕ)) : Type 0
  where
    pub front : List ℕ
    pub rest : List ℕ
    pub answer : AnswersLine plan state line (front ++ rest) next
    pub written : Appends old new front
