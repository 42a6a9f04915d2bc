-- What the head of a message says, and by which status one is refused.
use Rattle.std.specs.Prelude.{◌≡◌, ℕ, Bool, not, ◌||◌, ◌==◌, nat_le, List, [], codes, length, map, take, Option, None}
use Rattle.std.specs.Prelude.{Some}
use Rattle.std.specs.Prelude.{if◌then◌else◌}
use Rattle.std.specs.Bool.{MatchBool}
use Rattle.std.specs.List.{before_first}
use Rattle.std.specs.Option.{option_map}
use Rattle.httparse.specs.Grammar.{ReadsRequest, RequestHead}
use Rattle.httparse.specs.Spans.{name_and_value}
use Rattle.vc_http_heads.specs.declared.heads.Head.{Head}
use Rattle.vc_http_heads.specs.declared.heads.HeadJudged.{HeadJudged}
use Rattle.vc_http_heads.specs.declared.heads.HeadJudged.TheVariants as judged
use Rattle.vc_http_heads.specs.Ends.{head_len, is_large, skip_blank}
use Rattle.vc_http_heads.specs.Fields.{Field, given_in, has_field, has_host, is_bad, keeps, length_in}

-- what a head says: how many bytes it has, the method and the path that it names, how many bytes of a body follow, if
-- it says so, and whether the connection goes on
pub record HeadSaid : Type 0 where
  pub size : ℕ
  pub method : List ℕ
  pub path : List ℕ
  pub body : Option ℕ
  pub keep : Bool

-- a head, the status by which it is refused, or bytes that end before the head does
pub data Said : Type 0 where
  whole : HeadSaid → Said
  refused : ℕ → Said
  cut : Said

-- the path is the target up to its first question mark
abbrev pub path_of : List ℕ → List ℕ
path_of target = before_first (λ byte. byte == 63) target

-- what a head of these parts says
abbrev pub said_by : ℕ → List ℕ → List ℕ → ℕ → List Field → Said
said_by size method target minor fields =
    if not (has_host minor fields) || is_bad (length_in fields) then refused 400
    else (if has_field (codes "transfer-encoding") fields then refused 501
    else whole (record {
      size = size;
      method = method;
      path = path_of target;
      body = given_in (length_in fields);
      keep = keeps minor fields;
    }))

abbrev pub head_said : ℕ → Option RequestHead → Said
head_said size None = refused 400
head_said size (Some head) = said_by size head.method head.target head.minor (map name_and_value head.fields)

-- the head that all of the text is, if it is one
abbrev pub Reads : List ℕ → Option RequestHead → Type 0
Reads text None = (head : RequestHead) → ReadsRequest text head [] → ⊥
Reads text (Some head) = ReadsRequest text head []

-- what the head says with which the bytes begin
abbrev pub HeadAt : List ℕ → Option ℕ → Said → Type 0
HeadAt bytes None said = said ≡ (if nat_le 8192 (length bytes) then refused 431 else cut)
HeadAt bytes (Some len) said =
    MatchBool (is_large bytes len) (said ≡ refused 431)
    ((read : Option RequestHead) × Reads (skip_blank (take len bytes)) read × (said ≡ head_said len read))

abbrev pub HeadOf : List ℕ → Said → Type 0
HeadOf bytes said = HeadAt bytes (head_len bytes) said

-- what was judged, as it is said here
abbrev pub said_of : Head → HeadSaid
said_of head = record {
  size = head.size;
  method = head.method.now;
  path = head.path.now;
  body = head.body;
  keep = head.keep;
}

abbrev pub said : HeadJudged → Said
said (judged.Whole head) = whole (said_of head)
said (judged.Refused status) = refused status
said judged.Cut = cut
