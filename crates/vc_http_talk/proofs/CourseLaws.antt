-- What comes of one message, by what is written for it.
use Rattle.std.proofs.Common.{◌≡◌, ℕ, Bool, true, false, List, [], ◌++◌, Option, None, Some}
use Rattle.std.proofs.Common.{refl, sym, subst, ◌∙◌}
use Rattle.std.specs.Io.KnownBytes.{Appends}
use Rattle.std.proofs.KnownBytes.{Appends-nil}
use Rattle.vc_outside.specs.Faults.{Raised}
use Rattle.vc_outside.specs.Sinks.{AppendsFront}
use Rattle.vc_plan.specs.declared.plans.Plan.{Plan}
use Rattle.vc_wire_requests.specs.declared.request.Request.{Request}
use Rattle.vc_wire_replies.specs.declared.reply.Reply.{Reply}
use Rattle.vc_desk.specs.Answers.{Apply}
use Rattle.vc_desk.specs.States.{State}
use Rattle.vc_http_routes.specs.Methods.{methods_in}
use Rattle.vc_http_routes.specs.declared.methods.Allow.{Allow}
use Rattle.vc_http_messages.specs.Messages.{MessageOf, refused, whole}
use Rattle.vc_http_responses.specs.Responses.{bad_response}
use Rattle.vc_http.specs.Answers.{answer}
use Rattle.vc_http.specs.Turns.{Comes, Gives}
use Rattle.vc_http.specs.declared.turns.Turn.{Turn}
use Rattle.vc_http.specs.declared.turns.Turn.TheVariants as turn
use Rattle.vc_http_talk.specs.Courses.{AnswersRequest, ComesTo, Excuses, HoldsOfAll, Refuses, course_behind}
use Rattle.vc_http_talk.specs.Talk.{AnswersNext, answered_unsaid, goes_on, half_excused, half_said, no_memory, unread}
use Rattle.vc_http_talk.specs.declared.course.Course.{Course}
use Rattle.vc_http_talk.specs.declared.course.Course.TheVariants as course

pub excused_whole : (old new : Option (List ℕ)) (before now : ℕ) → Appends old new no_memory → now ≡ before
    → Excuses old new before now course.OutOfMemory
excused_whole old new before now appends calm = λ plan number state bytes next rest stands. (stands, appends, calm)

pub excused_half : (old new : Option (List ℕ)) (before now : ℕ) → AppendsFront old new no_memory → Raised before now
    → Excuses old new before now course.Failed
excused_half old new before now (front, unsent, is, appends) raised = λ plan number state bytes next rest stands.
    (front, half_excused unsent is stands, appends, raised)

pub refused_whole : (status : ℕ) (allow : Allow) (old new : Option (List ℕ)) (before now : ℕ)
    → Appends old new (bad_response status allow) → now ≡ before → Refuses status allow old new before now course.Closes
refused_whole status allow old new before now appends calm = λ plan number state bytes rest spells. (
  bad_response status allow,
  [],
  (refused status (methods_in allow), spells, (refl, refl, refl, refl)),
  appends,
  calm,
)

pub refused_half : (status : ℕ) (allow : Allow) (old new : Option (List ℕ)) (before now : ℕ)
    → AppendsFront old new (bad_response status allow) → Raised before now
    → Refuses status allow old new before now course.Failed
refused_half status allow old new before now (front, unsent, is, appends) raised =
    λ plan number state bytes rest spells. (
      front,
      half_said unsent [] false (refused status (methods_in allow), spells, (sym is, refl, refl, refl)),
      appends,
      raised,
    )

-- a request that is applied is answered by the reply
said : (plan : Plan) (number : ℕ) (state : State) (request : Request) (keep goes : Bool) (reply : Reply) (next : State)
    (bytes rest text : List ℕ)
    → goes ≡ goes_on number keep → MessageOf bytes (whole request keep rest) → Apply plan state request reply next
    → text ≡ answer plan reply goes
    → AnswersNext plan number state bytes text next rest goes
said plan number state request keep goes reply next bytes rest text same spells applies is = (
  whole request keep rest,
  spells,
  (reply, applies, subst (λ g. text ≡ answer plan reply g) same is, refl, same),
)

pub answered_whole : (plan later : Plan) (state : State) (request : Request) (goes : Bool) (reply : Reply)
    (next : State) (old new : Option (List ℕ)) (before now : ℕ) (came : Course)
    → later ≡ plan → Apply plan state request reply next → Appends old new (answer later reply goes) × (now ≡ before)
    → came ≡ course_behind goes
    → AnswersRequest plan state request goes next old new before now came
answered_whole plan later state request goes reply next old new before now came still applies (appends, calm) is =
    λ number keep bytes rest same spells.
    subst (λ c. ComesTo plan number state bytes next rest old new before now c) (sym is)
    (by number bytes rest goes
    (said plan number state request keep goes reply next bytes rest (answer plan reply goes) same spells
    applies refl) (subst (λ p. Appends old new (answer p reply goes)) still appends))
  where
    by : (number : ℕ) (bytes rest : List ℕ) (goes : Bool)
        → AnswersNext plan number state bytes (answer plan reply goes) next rest goes
        → Appends old new (answer plan reply goes)
        → ComesTo plan number state bytes next rest old new before now (course_behind goes)
    by number bytes rest true answers appends = (answer plan reply true, answers, appends, calm)
    by number bytes rest false answers appends = (answer plan reply false, rest, answers, appends, calm)

pub answered_half : (plan later : Plan) (state : State) (request : Request) (goes : Bool) (reply : Reply)
    (next : State) (old new : Option (List ℕ)) (before now : ℕ)
    → later ≡ plan → Apply plan state request reply next
    → AppendsFront old new (answer later reply goes) × Raised before now
    → AnswersRequest plan state request goes next old new before now course.Failed
answered_half plan later state request goes reply next old new before now still applies
    ((front, unsent, is, appends), raised) =
    λ number keep bytes rest same spells. (
      front,
      half_said unsent rest goes (said plan number state request keep goes reply next bytes rest (front ++ unsent) same
          spells applies (sym is ∙ (λ j. answer (still j) reply goes))),
      appends,
      raised,
    )

-- nothing was written, and then that memory was wanting
pub answered_not : (plan : Plan) (state : State) (request : Request) (goes : Bool) (reply : Reply) (next : State)
    (old mid new : Option (List ℕ)) (before between now : ℕ) (came : Course)
    → Apply plan state request reply next → (mid ≡ old) × (between ≡ before) → Excuses mid new between now came
    → AnswersRequest plan state request goes next old new before now came
answered_not plan state request goes reply next old mid new before between now came applies (wrote, calm) excuses =
    λ number keep bytes rest same spells.
    subst (λ xs. ComesTo plan number state bytes next rest xs new before now came) wrote
    (subst (λ n. ComesTo plan number state bytes next rest mid new n now came) calm
    (excuses plan number state bytes next rest (answered_unsaid (answer plan reply goes) rest goes
    (said plan number state request keep goes reply next bytes rest (answer plan reply goes) same spells applies
    refl))))

-- what holds of each message that may have come holds of the one that did
pub holds_so : (kept : List ℕ) (more : Option (List ℕ)) (rest : List ℕ) (left : Option (List ℕ)) (came : Turn)
    (Holds : List ℕ → List ℕ → Type 0)
    → Comes kept more rest left came → ((bytes behind : List ℕ) → Gives bytes behind came → Holds bytes behind)
    → HoldsOfAll kept more rest left Holds
holds_so kept None rest left came Holds (got, gives) holds = (got, holds (kept ++ got) rest gives)
holds_so kept (Some more) rest None came Holds gives holds = absurd gives
holds_so kept (Some more) rest (Some less) came Holds gives holds = holds (kept ++ more) (rest ++ less) gives

-- a message came, nothing was written before it was answered, and the link's rest stayed then
pub comes_so : (plan : Plan) (number : ℕ) (state next : State) (kept : List ℕ) (more : Option (List ℕ))
    (rest : List ℕ) (left later old mid new : Option (List ℕ)) (before between now : ℕ) (turned : Turn) (came : Course)
    → Comes kept more rest left turned → later ≡ left → mid ≡ old → between ≡ before
    → ((bytes behind : List ℕ) → Gives bytes behind turned
    → ComesTo plan number state bytes next behind mid new between now came)
    → HoldsOfAll kept more rest later (λ bytes behind.
    ComesTo plan number state bytes next behind old new before now came)
comes_so plan number state next kept more rest left later old mid new before between now turned came comes still wrote
    calm answers =
    subst (λ xs. HoldsOfAll kept more rest xs (λ bytes behind.
    ComesTo plan number state bytes next behind old new before now came)) (sym still)
    (holds_so kept more rest left turned
    (λ bytes behind. ComesTo plan number state bytes next behind old new before now came) comes
    (λ bytes behind gives.
    subst (λ xs. ComesTo plan number state bytes next behind xs new before now came) wrote
    (subst (λ n. ComesTo plan number state bytes next behind mid new n now came) calm (answers bytes behind gives))))

-- no message came, or the link failed before one did
pub comes_end : (plan : Plan) (number : ℕ) (state : State) (kept : List ℕ) (more : Option (List ℕ))
    (rest : List ℕ) (left old new : Option (List ℕ)) (before now : ℕ)
    → Comes kept more rest left turn.End → new ≡ old → now ≡ before
    → HoldsOfAll kept more rest left (λ bytes behind.
    ComesTo plan number state bytes state behind old new before now course.Ends)
comes_end plan number state kept more rest left old new before now comes wrote calm =
    holds_so kept more rest left turn.End
    (λ bytes behind. ComesTo plan number state bytes state behind old new before now course.Ends) comes
    (λ bytes behind gives. (gives.0, refl, wrote, calm))

pub comes_not : (plan : Plan) (number : ℕ) (state : State) (kept : List ℕ) (more : Option (List ℕ))
    (rest : List ℕ) (left old new : Option (List ℕ)) (before now : ℕ)
    → Comes kept more rest left turn.Failed → new ≡ old → Raised before now
    → HoldsOfAll kept more rest left (λ bytes behind.
    ComesTo plan number state bytes state behind old new before now course.Failed)
comes_not plan number state kept more rest left old new before now comes wrote raised =
    holds_so kept more rest left turn.Failed
    (λ bytes behind. ComesTo plan number state bytes state behind old new before now course.Failed) comes
    (λ bytes behind gives.
    ([], unread refl refl, subst (λ xs. Appends old xs []) (sym wrote) (Appends-nil old), raised))
