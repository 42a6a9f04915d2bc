-- A text that is a head as a whole, and the parts that were found in it.
use Rattle.std.proofs.Common.{◌≡◌, ◌≢◌, ℕ, ◌+◌, ◌≤◌, List, [], ◌∷◌, ◌++◌, length, drop, map, take, refl, ap, sym, ◌∙◌}
use Rattle.std.proofs.Common.{subst, arith}
use Rattle.std.proofs.Common.{append-nil, All, Ok, Err, Option, None, Some, Result, IsUtf8}
use Rattle.httparse.specs.declared.Error.{Error}
use Rattle.httparse.specs.declared.Status.{Status}
use Rattle.httparse.specs.declared.Status.TheVariants.{Complete}
use Rattle.httparse.specs.declared.spans.HeaderSpan.{HeaderSpan}
use Rattle.httparse.specs.declared.spans.RequestSpans.{RequestSpans}
use Rattle.httparse.specs.Grammar.{ReadsRequest, RequestHead, print_request}
use Rattle.httparse.specs.Outcome.{IsCompleteAnd}
use Rattle.httparse.specs.Spans.{FindsRequest, IsRequestAt, header_bytes, span_bytes}
use Rattle.vc_http_heads.specs.Ends.{count_lines}
use Rattle.vc_http_heads.specs.Heads.{head_said, said_by}
use Rattle.vc_http_heads.proofs.LineLaws.{few_fields}

drop_all : (xs : List ℕ) → drop (length xs) xs ≡ []
drop_all [] = refl
drop_all (x ∷ xs) = drop_all xs

-- what was read up to the text's end is all of it
pub reads_whole : (text : List ℕ) (fields : List HeaderSpan) (spans : RequestSpans) (head : RequestHead)
    → spans.len ≡ length text → IsRequestAt text fields spans head → ReadsRequest text head []
reads_whole text fields spans head ends at =
    subst (ReadsRequest text head) (ap (λ n. drop n text) ends ∙ drop_all text) at.reads

-- a head that is all of the text is read to its end
pub found_whole : (text : List ℕ) (fields : List HeaderSpan) (spans : RequestSpans) (head : RequestHead)
    → ReadsRequest text head [] → IsRequestAt text fields spans head → spans.len ≡ length text
found_whole text fields spans head reads at =
    at.len ∙ sym (ap length (reads.1 ∙ append-nil (print_request head)))

-- so where it was read to another place it is none
pub not_there : (text : List ℕ) (room : ℕ) (fields : List HeaderSpan) (spans : RequestSpans)
    (result : Result (Status RequestSpans) Error) → room ≡ 64 → count_lines text ≤ 66
    → result ≡ Ok (Complete spans) → FindsRequest text room fields result → (spans.len ≡ length text → ⊥)
    → (head : RequestHead) → ReadsRequest text head [] → ⊥
not_there text room fields spans result has few is found other head reads =
    let fits : length head.fields ≤ room = omega (arith, has, few_fields text head reads few) in
    let at : IsRequestAt text fields spans head =
    subst (λ r. IsCompleteAnd r (λ found. IsRequestAt text fields found head)) is (found head [] reads fits) in
    other (found_whole text fields spans head reads at)

-- what is said by the parts is said by the head
pub said_alike : (size : ℕ) (text : List ℕ) (fields : List HeaderSpan) (spans : RequestSpans) (head : RequestHead)
    → IsRequestAt text fields spans head
    → said_by size (span_bytes text spans.method) (span_bytes text spans.path) spans.version
    (map (header_bytes text) (take spans.headers fields)) ≡ head_said size (Some head)
said_alike size text fields spans head at = (λ j. said_by size (at.method j) (at.path j) (at.version j) (at.fields j))
