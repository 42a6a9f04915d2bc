-- The message with which bytes begin: a request and the bytes behind it, a refusal, or bytes that end before it does.
use Rattle.std.specs.Prelude.{◌≡◌, ◌≤◌, ℕ, Bool, true, false, nat_lt, if◌then◌else◌, List, [], length, take, drop}
use Rattle.std.specs.Prelude.{Option}
use Rattle.std.specs.Prelude.{None, Some, Result, Ok, Err}
use Rattle.vc_wire_requests.specs.Requests.{◌>>=◌}
use Rattle.vc_wire_requests.specs.declared.request.Request.{Request}
use Rattle.vc_wire_requests.specs.declared.verbs.Verb.{Verb}
use Rattle.vc_http_routes.specs.declared.methods.Method.{Method}
use Rattle.vc_http_routes.specs.declared.methods.Method.TheVariants as by
use Rattle.vc_http_routes.specs.declared.routes.Route.{Route}
use Rattle.vc_http_routes.specs.Methods.{method_of, methods_in}
use Rattle.vc_http_routes.specs.Routes.{methods_of}
use Rattle.vc_http_heads.specs.Heads as heads
use Rattle.vc_http_heads.specs.Heads.{HeadOf, HeadSaid, Said}
use Rattle.vc_http_targets.specs.Asked.{request_for, verb_for}
use Rattle.vc_http_targets.specs.Targets.{Aim, target_at}
use Rattle.vc_http_messages.specs.declared.judging.Judged.{Judged}
use Rattle.vc_http_messages.specs.declared.judging.Judged.TheVariants as judged

-- a request, whether the connection goes on behind it, and the bytes behind it; a status, and the methods that are
-- allowed where it is for the method; or nothing yet
pub data Message : Type 0 where
  whole : Request → Bool → List ℕ → Message
  refused : ℕ → List Method → Message
  cut : Message

-- how far bytes are judged by a head: to a message at once, or to a body that is to be read and the bytes behind it
pub data Stage : Type 0 where
  stopped : Message → Stage
  reading : Verb → Aim → Bool → List ℕ → List ℕ → Stage

-- PUT and POST want a length
abbrev pub wants_length : Method → Bool
wants_length by.Get = false
wants_length by.Post = true
wants_length by.Put = true
wants_length by.Delete = false

-- what is wanted of the route by a method of this name, and whether a length is wanted
abbrev pub wanted_of : Route → List ℕ → Option (Verb × Bool)
wanted_of route name = do
  method ← method_of name
  verb ← verb_for route method
  Some (verb, wants_length method)

-- the status by which the length of a body is refused, or how many bytes the body has
abbrev pub length_wanted : Bool → Option ℕ → Result ℕ ℕ
length_wanted wants None = if wants then Err 411 else Ok 0
length_wanted wants (Some count) = if nat_lt 65536 count then Err 413 else Ok count

-- the body, if all of it is there
abbrev pub body_in : ℕ → List ℕ → Option (List ℕ)
body_in count more = if nat_lt (length more) count then None else Some (take count more)

-- the rules in their order, for the bytes behind a head: the route, the method, the length, and the body
abbrev pub by_body : Verb → Aim → Bool → List ℕ → Option (List ℕ) → Stage
by_body verb aim keep rest None = stopped cut
by_body verb aim keep rest (Some body) = reading verb aim keep body rest

abbrev pub by_length : Verb → Aim → Bool → List ℕ → Result ℕ ℕ → Stage
by_length verb aim keep more (Err status) = stopped (refused status [])
by_length verb aim keep more (Ok count) = by_body verb aim keep (drop count more) (body_in count more)

abbrev pub by_method : Route → Aim → HeadSaid → List ℕ → Option (Verb × Bool) → Stage
by_method route aim head more None = stopped (refused 405 (methods_of route))
by_method route aim head more (Some wanted) =
    by_length wanted.0 aim head.keep more (length_wanted wanted.1 head.body)

abbrev pub by_target : HeadSaid → List ℕ → Option (Route × Aim) → Stage
by_target head more None = stopped (refused 404 [])
by_target head more (Some found) = by_method found.0 found.1 head more (wanted_of found.0 head.method)

abbrev pub stage_of : List ℕ → Said → Stage
stage_of bytes (heads.whole head) = by_target head (drop head.size bytes) (target_at head.path)
stage_of bytes (heads.refused status) = stopped (refused status [])
stage_of bytes heads.cut = stopped cut

-- a body that isn't the object that is wanted is refused; one that isn't wanted is left aside
abbrev pub by_request : Bool → List ℕ → Option Request → Message
by_request keep rest None = refused 400 []
by_request keep rest (Some request) = whole request keep rest

abbrev pub message_at : Stage → Message
message_at (stopped message) = message
message_at (reading verb aim keep body rest) = by_request keep rest (request_for verb aim body)

-- what the bytes spell
abbrev pub MessageOf : List ℕ → Message → Type 0
MessageOf bytes message = (said : Said) × HeadOf bytes said × (message ≡ message_at (stage_of bytes said))

-- a body was to be read, and these are the bytes behind it
abbrev pub Leaves : Stage → List ℕ → Type 0
Leaves (stopped message) left = ⊥
Leaves (reading verb aim keep body rest) left = rest ≡ left

-- a judgement of bytes that lead to this stage: memory may be wanting where the body is read alone
abbrev pub Judges : Stage → List ℕ → Judged → Type 0
Judges stage bytes (judged.Whole request keep size) =
    (message_at stage ≡ whole request keep (drop size bytes)) × (size ≤ length bytes)
Judges stage bytes (judged.Refused status allow) = message_at stage ≡ refused status (methods_in allow)
Judges stage bytes judged.Cut = message_at stage ≡ cut
Judges stage bytes (judged.OutOfMemory size) = Leaves stage (drop size bytes) × (size ≤ length bytes)

abbrev pub IsJudged : List ℕ → Judged → Type 0
IsJudged bytes answer = (said : Said) × HeadOf bytes said × Judges (stage_of bytes said) bytes answer
