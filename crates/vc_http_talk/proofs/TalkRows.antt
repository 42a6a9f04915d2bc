-- Connections of a few messages, and what would be wrong.
use Rattle.std.proofs.Common.{◌≡◌, ℕ, Bool, true, false, List, [], ◌∷◌, ◌++◌, refl, subst}
use Rattle.std.specs.Prelude.{codes}
use Rattle.std.specs.Fmt.{digits}
use Rattle.vc_plan.specs.declared.plans.Plan.{Plan}
use Rattle.vc_wire_requests.specs.declared.request.Request.{Request}
use Rattle.vc_wire_replies.specs.declared.reply.Reply.{Reply}
use Rattle.vc_desk.specs.Answers.{Apply}
use Rattle.vc_desk.specs.States.{State}
use Rattle.vc_http_routes.specs.declared.methods.Allow.TheVariants.{GetDelete}
use Rattle.vc_http_routes.specs.declared.methods.Method.{Method}
use Rattle.vc_http_routes.specs.Methods.{methods_in}
use Rattle.vc_http_messages.specs.Messages.{Message, MessageOf, cut, refused, whole}
use Rattle.vc_http_messages.proofs.MessageLaws.{message_one}
use Rattle.vc_http.specs.Answers.{answer}
use Rattle.vc_http_talk.specs.Talk.{AnswersMessage, IsOver, Talk, goes_on, no_memory, refusal}

-- no message yet
none_yet : (plan : Plan) (state : State) (bytes : List ℕ) → Talk plan state bytes 0 [] state bytes true
none_yet plan state bytes = (refl, refl, refl, refl)

-- two requests, the second of which keeps the connection no more; what is behind it is left
two_requests : (plan : Plan) (state between next : State) (bytes more rest : List ℕ) (one two : Request)
    (first second : Reply)
    → MessageOf bytes (whole one true more) → Apply plan state one first between
    → MessageOf more (whole two false rest) → Apply plan between two second next
    → Talk plan state bytes 2 (answer plan first true ++ answer plan second false) next rest false
two_requests plan state between next bytes more rest one two first second spells applies follows then = (
  answer plan first true,
  between,
  more,
  answer plan second false,
  (
    [],
    state,
    bytes,
    answer plan first true,
    (refl, refl, refl, refl),
    (whole one true more, spells, (first, applies, refl, refl, refl)),
    refl,
  ),
  (whole two false rest, follows, (second, then, refl, refl, refl)),
  refl,
)

-- a message that is refused leaves the state, and nothing of the bytes
refused_once : (plan : Plan) (state : State) (bytes : List ℕ) → MessageOf bytes (refused 404 [])
    → Talk plan state bytes 1 (refusal 404 []) state [] false
refused_once plan state bytes spells = (
  [],
  state,
  bytes,
  refusal 404 [],
  (refl, refl, refl, refl),
  (refused 404 [], spells, (refl, refl, refl, refl)),
  refl,
)

method_refused : refusal 405 (methods_in GetDelete)
    ≡ codes "HTTP/1.1 405 Method Not Allowed\r\ncontent-type: text/plain; charset=utf-8\r\ncontent-length: 22\r\n"
    ++ codes "allow: GET, DELETE\r\nconnection: close\r\n\r\nrefused 0 NotARequest\n"
unfolding digits
method_refused = refl

memory_wanting : no_memory
    ≡ codes "HTTP/1.1 503 Service Unavailable\r\ncontent-type: text/plain; charset=utf-8\r\ncontent-length: 23\r\n"
    ++ codes "connection: close\r\n\r\nrefused 11 OutOfMemory\n"
unfolding digits
memory_wanting = refl

-- the last number but one keeps the connection, the last doesn't
last_but_one : goes_on 9999 true ≡ true
last_but_one = refl

last : goes_on 10000 true ≡ false
last = refl

-- wrong: the last one keeps it open
last_kept_open : (plan : Plan) (state next : State) (request : Request) (more written rest : List ℕ)
    → AnswersMessage plan 10000 state (whole request true more) written next rest true → ⊥
last_kept_open plan state next request more written rest (reply, applies, text, left, goes) = absurd (cc goes)

-- the first message is the one that the bytes spell
spelled : (plan : Plan) (state next : State) (bytes written rest : List ℕ) (goes : Bool) (message : Message)
    → Talk plan state bytes 1 written next rest goes → MessageOf bytes message
    → (between : State) × (text : List ℕ) × AnswersMessage plan 1 between message text next rest goes
spelled plan state next bytes written rest goes message
    (first, between, behind, more, (none, same, all, still), (other, spells, answers), is) other_spells = (
      between,
      more,
      subst (λ m. AnswersMessage plan 1 between m more next rest goes)
          (message_one bytes other message (subst (λ xs. MessageOf xs other) all spells) other_spells) answers,
    )

-- wrong: a message that is refused keeps it open
refused_kept_open : (plan : Plan) (state next : State) (bytes written rest : List ℕ) (status : ℕ)
    (methods : List Method)
    → MessageOf bytes (refused status methods) → Talk plan state bytes 1 written next rest true → ⊥
refused_kept_open plan state next bytes written rest status methods spells talk =
    let said = spelled plan state next bytes written rest true (refused status methods) talk spells in
    by said.2
  where
    by : {between : State} {text : List ℕ} → AnswersMessage plan 1 between (refused status methods) text next rest true
        → ⊥
    by (text, same, left, goes) = absurd (cc goes)

-- wrong: a message is answered behind one that closes
behind_one_that_closes : (plan : Plan) (state next : State) (bytes more written rest : List ℕ) (request : Request)
    (goes : Bool)
    → MessageOf bytes (whole request false more) → Talk plan state bytes 2 written next rest goes → ⊥
behind_one_that_closes plan state next bytes more written rest request goes spells
    (first, between, behind, last, talk, answers, is) =
    let said = spelled plan state between bytes first behind true (whole request false more) talk spells in
    absurd (cc (said.2.4))

-- wrong: the bytes behind a request are lost
rest_lost : (plan : Plan) (state next : State) (bytes more written : List ℕ) (byte : ℕ) (request : Request)
    → MessageOf bytes (whole request true (byte ∷ more)) → Talk plan state bytes 1 written next [] true → ⊥
rest_lost plan state next bytes more written byte request spells talk =
    let said = spelled plan state next bytes written [] true (whole request true (byte ∷ more)) talk spells in
    absurd (cc (said.2.3))

-- wrong: the connection is over where a request is left and it goes on
over_too_soon : (rest more : List ℕ) (request : Request) (keep : Bool) → MessageOf rest (whole request keep more)
    → IsOver true rest → ⊥
over_too_soon rest more request keep spells over =
    absurd (cc (message_one rest (whole request keep more) cut spells over))
