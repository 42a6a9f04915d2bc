-- Bytes spell one message, and it stays the same whatever bytes follow.
use Rattle.std.proofs.Common.{◌≡◌, ℕ, ◌≤◌, Bool, true, false, cond, List, ◌++◌, length, take, drop}
use Rattle.std.proofs.Common.{Option, None, Some, Result, Ok, Err, refl, subst, sym, ap, ◌∙◌, arith}
use Rattle.std.specs.Prelude.{nat_lt}
use Rattle.std.proofs.lemmas.Bool.{le-ltb, ltb-false}
use Rattle.vc_wire_requests.specs.declared.request.Request.{Request}
use Rattle.vc_wire_requests.specs.declared.verbs.Verb.{Verb}
use Rattle.vc_http_routes.specs.declared.routes.Route.{Route}
use Rattle.vc_http_heads.specs.Heads as heads
use Rattle.vc_http_heads.specs.Heads.{HeadOf, HeadSaid, Said}
use Rattle.vc_http_targets.specs.Asked.{request_for}
use Rattle.vc_http_targets.specs.Targets.{Aim, target_at}
use Rattle.vc_http_messages.specs.Laws.{CutsDontMatter, IsSpelled, OneMessage, followed}
use Rattle.vc_http_messages.specs.Messages.{Stage, body_in, by_body, by_length, by_method, by_request}
use Rattle.vc_http_messages.specs.Messages.{by_target, length_wanted, message_at, stage_of, wanted_of}
use Rattle.vc_http_messages.proofs.ExtentLaws.{drop_more, head_fits, head_more, head_one, longer, size_of, take_more}

pub message_one : OneMessage
message_one bytes one other a b =
    a.2 ∙ ap (λ said. message_at (stage_of bytes said)) (head_one bytes a.0 b.0 a.1 b.1) ∙ sym b.2

request_more : (keep : Bool) (rest more : List ℕ) (asked : Option Request)
    → followed (by_request keep rest asked) more ≡ by_request keep (rest ++ more) asked
request_more keep rest more None = refl
request_more keep rest more (Some request) = refl

-- what a stage leads to, where more bytes follow that it doesn't look at
abbrev Same : Stage → Stage → List ℕ → Type 0
Same stage later more = IsSpelled (message_at stage) → followed (message_at stage) more ≡ message_at later

body_more : (verb : Verb) (aim : Aim) (keep : Bool) (count : ℕ) (rest more : List ℕ)
    → Same (by_body verb aim keep (drop count rest) (body_in count rest))
    (by_body verb aim keep (drop count (rest ++ more)) (body_in count (rest ++ more))) more
body_more verb aim keep count rest more = by (nat_lt (length rest) count) refl
  where
    by : (v : Bool) → nat_lt (length rest) count ≡ v
        → Same (by_body verb aim keep (drop count rest) (cond v None (Some (take count rest))))
        (by_body verb aim keep (drop count (rest ++ more)) (body_in count (rest ++ more))) more
    by true e there = absurd there
    by false e there =
        let fits : count ≤ length rest = ltb-false (length rest) count e in
        let still : nat_lt (length (rest ++ more)) count ≡ false =
        le-ltb (length (rest ++ more)) count (omega (arith, fits, longer rest more)) in
        request_more keep (drop count rest) more (request_for verb aim (take count rest))
        ∙ (λ j. by_request keep (sym (drop_more count rest more fits) j)
        (request_for verb aim (sym (take_more count rest more fits) j)))
        ∙ ap (λ v. message_at (by_body verb aim keep (drop count (rest ++ more))
        (cond v None (Some (take count (rest ++ more)))))) (sym still)

length_more : (verb : Verb) (aim : Aim) (keep : Bool) (rest more : List ℕ) (wanted : Result ℕ ℕ)
    → Same (by_length verb aim keep rest wanted) (by_length verb aim keep (rest ++ more) wanted) more
length_more verb aim keep rest more (Err status) there = refl
length_more verb aim keep rest more (Ok count) there = body_more verb aim keep count rest more there

method_more : (route : Route) (aim : Aim) (head : HeadSaid) (rest more : List ℕ) (wanted : Option (Verb × Bool))
    → Same (by_method route aim head rest wanted) (by_method route aim head (rest ++ more) wanted) more
method_more route aim head rest more None there = refl
method_more route aim head rest more (Some wanted) there =
    length_more wanted.0 aim head.keep rest more (length_wanted wanted.1 head.body) there

target_more : (head : HeadSaid) (rest more : List ℕ) (found : Option (Route × Aim))
    → Same (by_target head rest found) (by_target head (rest ++ more) found) more
target_more head rest more None there = refl
target_more head rest more (Some found) there =
    method_more found.0 found.1 head rest more (wanted_of found.0 head.method) there

stage_more : (bytes more : List ℕ) (said : Said) → size_of said ≤ length bytes
    → Same (stage_of bytes said) (stage_of (bytes ++ more) said) more
stage_more bytes more (heads.whole head) fits there =
    target_more head (drop head.size bytes) more (target_at head.path) there
    ∙ ap (λ rest. message_at (by_target head rest (target_at head.path))) (sym (drop_more head.size bytes more fits))
stage_more bytes more (heads.refused status) fits there = refl
stage_more bytes more heads.cut fits there = refl

pub message_more : CutsDontMatter
message_more bytes more message a spelt =
    let there : IsSpelled (message_at (stage_of bytes a.0)) = subst IsSpelled a.2 spelt in (
      a.0,
      head_more bytes more a.0 a.1 (λ is. subst (λ said. IsSpelled (message_at (stage_of bytes said))) is there),
      ap (λ m. followed m more) a.2 ∙ stage_more bytes more a.0 (head_fits bytes a.0 a.1) there,
    )
