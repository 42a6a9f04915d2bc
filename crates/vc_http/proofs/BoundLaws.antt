-- Bytes that end before a message does are few.
use Rattle.std.proofs.Common.{◌≡◌, ℕ, zero, suc, ◌+◌, ◌<◌, ◌≤◌, Bool, true, false, cond, ◌||◌, List, [], ◌∷◌, length}
use Rattle.std.proofs.Common.{take, drop, Option, None, Some}
use Rattle.std.proofs.Common.{Ok, Err, arith, refl, subst, sym}
use Rattle.std.specs.Prelude.{codes, map, nat_le, nat_lt, not}
use Rattle.std.specs.Bool.{MatchBool}
use Rattle.std.proofs.lemmas.Bool.{leb-false, ltb-false, ltb-true}
use Rattle.httparse.specs.Grammar.{RequestHead}
use Rattle.httparse.specs.Spans.{name_and_value}
use Rattle.vc_wire_requests.specs.declared.request.Request.{Request}
use Rattle.vc_wire_requests.specs.declared.verbs.Verb.{Verb}
use Rattle.vc_http_routes.specs.declared.routes.Route.{Route}
use Rattle.vc_http_heads.specs.Ends.{count_lines, head_len, skip_blank}
use Rattle.vc_http_heads.specs.Fields.{given_in, has_field, has_host, is_bad, keeps, length_in}
use Rattle.vc_http_heads.specs.Heads as heads
use Rattle.vc_http_heads.specs.Heads.{HeadAt, HeadOf, HeadSaid, Reads, Said, head_said, path_of}
use Rattle.vc_http_targets.specs.Asked.{request_for}
use Rattle.vc_http_targets.specs.Targets.{Aim, target_at}
use Rattle.vc_http_messages.specs.Messages.{MessageOf, body_in, by_body, by_length, by_method, by_request}
use Rattle.vc_http_messages.specs.Messages.{by_target, cut, length_wanted, message_at, stage_of, wanted_of}

-- a head that is read is refused, or has as many bytes as it was given
abbrev EndsAt : ℕ → Said → Type 0
EndsAt len (heads.whole head) = head.size ≡ len
EndsAt len (heads.refused status) = Unit
EndsAt len heads.cut = ⊥

said_ends : (len : ℕ) (read : Option RequestHead) → EndsAt len (head_said len read)
said_ends len None = tt
said_ends len (Some head) =
    let fields = map name_and_value head.fields in
    by (not (has_host head.minor fields) || is_bad (length_in fields)) (has_field (codes "transfer-encoding") fields)
    (record {
      size = len;
      method = head.method;
      path = path_of head.target;
      body = given_in (length_in fields);
      keep = keeps head.minor fields;
    }) refl
  where
    by : (v w : Bool) (rest : HeadSaid) → rest.size ≡ len
        → EndsAt len (cond v (heads.refused 400) (cond w (heads.refused 501) (heads.whole rest)))
    by true w rest h = tt
    by false true rest h = tt
    by false false rest h = h

-- few bytes are there where no head ends, and a head that is whole is short
abbrev IsShort : List ℕ → Said → Type 0
IsShort bytes (heads.whole head) = head.size ≤ 8192
IsShort bytes (heads.refused status) = Unit
IsShort bytes heads.cut = length bytes < 8192

ends_short : (bytes : List ℕ) (len : ℕ) (said : Said) → len ≤ 8192 → EndsAt len said → IsShort bytes said
ends_short bytes len (heads.whole head) few is = omega (arith, few, is)
ends_short bytes len (heads.refused status) few is = tt
ends_short bytes len heads.cut few is = absurd is

large_or_short : (bytes : List ℕ) (len : ℕ) (said : Said) (v w : Bool) → nat_lt 8192 len ≡ v
    → MatchBool (v || w) (said ≡ heads.refused 431)
    ((read : Option RequestHead) × Reads (skip_blank (take len bytes)) read × (said ≡ head_said len read))
    → IsShort bytes said
large_or_short bytes len said true w e is = subst (IsShort bytes) (sym is) tt
large_or_short bytes len said false true e is = subst (IsShort bytes) (sym is) tt
large_or_short bytes len said false false e is =
    subst (IsShort bytes) (sym is.2)
    (ends_short bytes len (head_said len is.0) (ltb-false 8192 len e) (said_ends len is.0))

head_short : (bytes : List ℕ) (said : Said) → HeadOf bytes said → IsShort bytes said
head_short bytes said = by (head_len bytes)
  where
    none : (v : Bool) → nat_le 8192 (length bytes) ≡ v → said ≡ cond v (heads.refused 431) heads.cut
        → IsShort bytes said
    none true e is = subst (IsShort bytes) (sym is) tt
    none false e is = subst (IsShort bytes) (sym is) (leb-false 8192 (length bytes) e)

    by : (o : Option ℕ) → HeadAt bytes o said → IsShort bytes said
    by None is = none (nat_le 8192 (length bytes)) refl is
    by (Some len) is =
        large_or_short bytes len said (nat_lt 8192 len) (nat_lt 66 (count_lines (take len bytes))) refl is

-- a body that is read leads to a message
never_cut : (keep : Bool) (rest : List ℕ) (asked : Option Request) → cut ≡ by_request keep rest asked → ⊥
never_cut keep rest None is = absurd (cc is)
never_cut keep rest (Some request) is = absurd (cc is)

-- bytes behind a head that end before its body does are fewer than it has
body_short : (verb : Verb) (aim : Aim) (keep : Bool) (count : ℕ) (more : List ℕ)
    → cut ≡ message_at (by_body verb aim keep (drop count more) (body_in count more)) → length more < count
body_short verb aim keep count more = by (nat_lt (length more) count) refl
  where
    by : (v : Bool) → nat_lt (length more) count ≡ v
        → cut ≡ message_at (by_body verb aim keep (drop count more) (cond v None (Some (take count more))))
        → length more < count
    by true e is = ltb-true (length more) count e
    by false e is = absurd (never_cut keep (drop count more) (request_for verb aim (take count more)) is)

length_short : (verb : Verb) (aim : Aim) (keep : Bool) (more : List ℕ) (wants : Bool) (body : Option ℕ)
    → cut ≡ message_at (by_length verb aim keep more (length_wanted wants body)) → length more < 65536
length_short verb aim keep more true None is = absurd (cc is)
length_short verb aim keep more false None is = omega (arith, body_short verb aim keep 0 more is)
length_short verb aim keep more wants (Some count) is = by (nat_lt 65536 count) refl is
  where
    by : (v : Bool) → nat_lt 65536 count ≡ v
        → cut ≡ message_at (by_length verb aim keep more (cond v (Err 413) (Ok count))) → length more < 65536
    by true e is = absurd (cc is)
    by false e is = omega (arith, body_short verb aim keep count more is, ltb-false 65536 count e)

method_short : (route : Route) (aim : Aim) (head : HeadSaid) (more : List ℕ) (wanted : Option (Verb × Bool))
    → cut ≡ message_at (by_method route aim head more wanted) → length more < 65536
method_short route aim head more None is = absurd (cc is)
method_short route aim head more (Some wanted) is =
    length_short wanted.0 aim head.keep more wanted.1 head.body is

target_short : (head : HeadSaid) (more : List ℕ) (found : Option (Route × Aim))
    → cut ≡ message_at (by_target head more found) → length more < 65536
target_short head more None is = absurd (cc is)
target_short head more (Some found) is =
    method_short found.0 found.1 head more (wanted_of found.0 head.method) is

behind : (n : ℕ) (xs : List ℕ) → length xs ≤ n + length (drop n xs)
behind zero xs = omega arith
behind (suc n) [] = omega arith
behind (suc n) (x ∷ xs) = omega (arith, behind n xs)

stage_short : (bytes : List ℕ) (said : Said) → IsShort bytes said → cut ≡ message_at (stage_of bytes said)
    → length bytes < 73728
stage_short bytes (heads.whole head) short is =
    omega (
      arith,
      short,
      behind head.size bytes,
      target_short head (drop head.size bytes) (target_at head.path) is,
    )
stage_short bytes (heads.refused status) short is = absurd (cc is)
stage_short bytes heads.cut short is = omega (arith, short)

pub cut_is_short : (bytes : List ℕ) → MessageOf bytes cut → length bytes < 73728
cut_is_short bytes (said, head, is) = stage_short bytes said (head_short bytes said head) is
