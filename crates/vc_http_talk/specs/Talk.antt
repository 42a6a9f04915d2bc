-- What a connection comes to: the messages of its bytes are answered one after another, until one closes it or the
-- bytes end.
use Rattle.std.specs.Prelude.{◌≡◌, ⊤, ℕ, zero, suc, ◌+◌, nat_lt, Bool, true, false, ◌&&◌, List, [], ◌++◌}
use Rattle.std.specs.Prelude.{Option, None, Some}
use Rattle.std.specs.Io.KnownBytes.{Appends}
use Rattle.vc_outside.specs.Faults.{Raised}
use Rattle.vc_plan.specs.declared.plans.Plan.{Plan}
use Rattle.vc_wire_replies.specs.declared.reply.Reply.{Reply}
use Rattle.vc_desk.specs.Answers.{Apply}
use Rattle.vc_desk.specs.States.{State}
use Rattle.vc_http_routes.specs.declared.methods.Allow.TheVariants.{Nothing}
use Rattle.vc_http_routes.specs.declared.methods.Method.{Method}
use Rattle.vc_http_messages.specs.Messages.{Message, MessageOf, cut, refused, whole}
use Rattle.vc_http_responses.specs.Responses.{bad_body, bad_response, response}
use Rattle.vc_http.specs.Answers.{answer}

-- the most messages of a connection that are answered
abbrev pub answer_limit : ℕ
answer_limit = 10000

-- whether the connection goes on behind the answer of this number, by whether its request keeps it
abbrev pub goes_on : ℕ → Bool → Bool
goes_on number keep = keep && nat_lt number answer_limit

-- the response to a message that is refused
abbrev pub refusal : ℕ → List Method → List ℕ
refusal status methods = response status methods false (bad_body status)

-- the response where memory is wanting outside the desk
abbrev pub no_memory : List ℕ
no_memory = bad_response 503 Nothing

-- the message of this number: from a state this is written, and that state and these bytes are left; and whether the
-- connection goes on. A request is applied once, and the bytes behind it are left. A refused message leaves none
abbrev pub AnswersMessage : Plan → ℕ → State → Message → List ℕ → State → List ℕ → Bool → Type 0
AnswersMessage plan number state (whole request keep behind) written next rest goes =
    (reply : Reply) × Apply plan state request reply next × (written ≡ answer plan reply (goes_on number keep))
    × (rest ≡ behind) × (goes ≡ goes_on number keep)
AnswersMessage plan number state (refused status methods) written next rest goes =
    (written ≡ refusal status methods) × (next ≡ state) × (rest ≡ []) × (goes ≡ false)
AnswersMessage plan number state cut written next rest goes = ⊥

-- the same of the message with which these bytes begin
abbrev pub AnswersNext : Plan → ℕ → State → List ℕ → List ℕ → State → List ℕ → Bool → Type 0
AnswersNext plan number state bytes written next rest goes = (message : Message) × MessageOf bytes message
    × AnswersMessage plan number state message written next rest goes

-- so many messages of the bytes, from a state: what is written, and the state and the bytes that are left; and whether
-- the connection goes on. No message follows one behind which it doesn't
abbrev pub Talk : Plan → State → List ℕ → ℕ → List ℕ → State → List ℕ → Bool → Type 0
Talk plan state bytes zero written next rest goes =
    (written ≡ []) × (next ≡ state) × (rest ≡ bytes) × (goes ≡ true)
Talk plan state bytes (suc count) written next rest goes =
    (first : List ℕ) × (between : State) × (behind : List ℕ) × (more : List ℕ)
    × Talk plan state bytes count first between behind true
    × AnswersNext plan (suc count) between behind more next rest goes × (written ≡ first ++ more)

-- nothing more is answered: the last message closed the connection, or the bytes that are left end before a message
-- does
abbrev pub IsOver : Bool → List ℕ → Type 0
IsOver false rest = ⊤
IsOver true rest = MessageOf rest cut

-- the state after a message that wasn't answered, or not to the end: that before it, or that after it
pub data Stands (plan : Plan) (number : ℕ) (state : State) (bytes : List ℕ) (after : State) : Type 0 where
  untouched : after ≡ state → Stands plan number state bytes after
  answered_unsaid : (response rest : List ℕ) (goes : Bool)
      → AnswersNext plan number state bytes response after rest goes → Stands plan number state bytes after

-- what was written, and the state, where the link failed at the message of this number: no message was read; or this is
-- a front of the response to it; or memory was wanting, and this is a front of the response to that
pub data BreaksOff (plan : Plan) (number : ℕ) (state : State) (bytes : List ℕ) (after : State) (front : List ℕ)
    : Type 0 where
  unread : after ≡ state → front ≡ [] → BreaksOff plan number state bytes after front
  half_said : (unsent rest : List ℕ) (goes : Bool)
      → AnswersNext plan number state bytes (front ++ unsent) after rest goes
      → BreaksOff plan number state bytes after front
  half_excused : (unsent : List ℕ) → no_memory ≡ front ++ unsent → Stands plan number state bytes after
      → BreaksOff plan number state bytes after front

-- these messages are all that is answered
pub record IsEnded (plan : Plan) (bytes : List ℕ) (before after : State) (old new : Option (List ℕ)) : Type 0 where
  pub count : ℕ
  pub written : List ℕ
  pub rest : List ℕ
  pub goes : Bool
  pub talk : Talk plan before bytes count written after rest goes
  pub over : IsOver goes rest
  pub appends : Appends old new written

-- these messages are answered, and behind them memory was wanting
pub record IsExcused (plan : Plan) (bytes : List ℕ) (before after : State) (old new : Option (List ℕ)) : Type 0 where
  pub count : ℕ
  pub written : List ℕ
  pub last : State
  pub rest : List ℕ
  pub talk : Talk plan before bytes count written last rest true
  pub stands : Stands plan (count + 1) last rest after
  pub appends : Appends old new (written ++ no_memory)

-- these messages are answered, and behind them the link failed
pub record IsBrokenOff (plan : Plan) (bytes : List ℕ) (before after : State) (old new : Option (List ℕ)) : Type 0 where
  pub count : ℕ
  pub written : List ℕ
  pub last : State
  pub rest : List ℕ
  pub front : List ℕ
  pub talk : Talk plan before bytes count written last rest true
  pub breaks : BreaksOff plan (count + 1) last rest after front
  pub appends : Appends old new (written ++ front)

-- a link gives these bytes: those that it tells; of one that doesn't tell they may be any
abbrev pub AreGiven : Option (List ℕ) → List ℕ → Type 0
AreGiven None bytes = ⊤
AreGiven (Some told) bytes = bytes ≡ told

-- what a connection comes to, from the state before to the state after, by the bytes that its link had left, what was
-- written to it, and its count of faults. The count is raised where the link failed, and is else as it was
pub data TalksTo (plan : Plan) (before after : State) (left old new : Option (List ℕ)) (faults now : ℕ) : Type 0 where
  ended : (bytes : List ℕ) → AreGiven left bytes → IsEnded plan bytes before after old new → now ≡ faults
      → TalksTo plan before after left old new faults now
  excused : (bytes : List ℕ) → AreGiven left bytes → IsExcused plan bytes before after old new → now ≡ faults
      → TalksTo plan before after left old new faults now
  broken_off : (bytes : List ℕ) → AreGiven left bytes → IsBrokenOff plan bytes before after old new
      → Raised faults now → TalksTo plan before after left old new faults now
