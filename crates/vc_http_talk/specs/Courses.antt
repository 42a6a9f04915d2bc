-- What comes of one message of a connection.
use Rattle.std.specs.Prelude.{◌≡◌, ℕ, Bool, true, false, List, ◌++◌, Option, None, Some}
use Rattle.std.specs.Io.KnownBytes.{Appends}
use Rattle.vc_outside.specs.Faults.{Raised}
use Rattle.vc_plan.specs.declared.plans.Plan.{Plan}
use Rattle.vc_wire_requests.specs.declared.request.Request.{Request}
use Rattle.vc_desk.specs.States.{State}
use Rattle.vc_http_routes.specs.declared.methods.Allow.{Allow}
use Rattle.vc_http_routes.specs.Methods.{methods_in}
use Rattle.vc_http_messages.specs.Messages.{MessageOf, cut, refused, whole}
use Rattle.vc_http_talk.specs.Talk.{AnswersNext, BreaksOff, Stands, goes_on, no_memory}
use Rattle.vc_http_talk.specs.declared.course.Course.{Course}
use Rattle.vc_http_talk.specs.declared.course.Course.TheVariants as course

-- the message of this number, of bytes of which these are left behind it: what came of it, by the states before and
-- after, what was written, and the link's count of faults
abbrev pub ComesTo : Plan → ℕ → State → List ℕ → State → List ℕ → Option (List ℕ) → Option (List ℕ) → ℕ → ℕ → Course
    → Type 0
ComesTo plan number state bytes next rest old new before now course.GoesOn = (written : List ℕ)
    × AnswersNext plan number state bytes written next rest true × Appends old new written × (now ≡ before)
ComesTo plan number state bytes next rest old new before now course.Closes = (written : List ℕ) × (behind : List ℕ)
    × AnswersNext plan number state bytes written next behind false × Appends old new written × (now ≡ before)
ComesTo plan number state bytes next rest old new before now course.Ends =
    MessageOf bytes cut × (next ≡ state) × (new ≡ old) × (now ≡ before)
ComesTo plan number state bytes next rest old new before now course.OutOfMemory =
    Stands plan number state bytes next × Appends old new no_memory × (now ≡ before)
ComesTo plan number state bytes next rest old new before now course.Failed = (front : List ℕ)
    × BreaksOff plan number state bytes next front × Appends old new front × Raised before now

-- this holds of all bytes, those that are kept and those that the link has left, before and after, however the link
-- gave them. Where it doesn't tell them, there are some that it gave
abbrev pub HoldsOfAll : List ℕ → Option (List ℕ) → List ℕ → Option (List ℕ) → (List ℕ → List ℕ → Type 0) → Type 0
HoldsOfAll kept None rest left Holds = (got : List ℕ) × Holds (kept ++ got) rest
HoldsOfAll kept (Some more) rest None Holds = ⊥
HoldsOfAll kept (Some more) rest (Some left) Holds = Holds (kept ++ more) (rest ++ left)

-- which of the two it is, where the message is answered
abbrev pub course_behind : Bool → Course
course_behind true = course.GoesOn
course_behind false = course.Closes

-- so of every message that is this request, and behind which the connection goes on or doesn't
abbrev pub AnswersRequest : Plan → State → Request → Bool → State → Option (List ℕ) → Option (List ℕ) → ℕ → ℕ → Course
    → Type 0
AnswersRequest plan state request goes next old new before now came =
    (number : ℕ) (keep : Bool) (bytes rest : List ℕ)
    → goes ≡ goes_on number keep → MessageOf bytes (whole request keep rest)
    → ComesTo plan number state bytes next rest old new before now came

-- so of every message that is refused with this status
abbrev pub Refuses : ℕ → Allow → Option (List ℕ) → Option (List ℕ) → ℕ → ℕ → Course → Type 0
Refuses status allow old new before now came =
    (plan : Plan) (number : ℕ) (state : State) (bytes rest : List ℕ)
    → MessageOf bytes (refused status (methods_in allow))
    → ComesTo plan number state bytes state rest old new before now came

-- so of every message behind which the state stands so, and of whose response nothing was written
abbrev pub Excuses : Option (List ℕ) → Option (List ℕ) → ℕ → ℕ → Course → Type 0
Excuses old new before now came =
    (plan : Plan) (number : ℕ) (state : State) (bytes : List ℕ) (next : State) (rest : List ℕ)
    → Stands plan number state bytes next
    → ComesTo plan number state bytes next rest old new before now came
