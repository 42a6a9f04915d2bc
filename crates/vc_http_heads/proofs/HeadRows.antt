-- Worked rows of heads, by computing. Beside what is so stands what would be so by a likely slip, and isn't.
use Rattle.std.proofs.Common.{◌≡◌, ℕ, zero, suc, ◌+◌, List, [], ◌∷◌, ◌++◌, length, take, refl, subst, sym, ap, ◌∙◌}
use Rattle.std.proofs.Common.{arith}
use Rattle.std.proofs.Common.{true, false, None, Some}
use Rattle.std.specs.Prelude.{codes, if◌then◌else◌, nat_le, nat_lt}
use Rattle.vc_http_heads.specs.declared.ends.Place.TheVariants as place
use Rattle.vc_http_heads.specs.declared.fields.Length.TheVariants as lengths
use Rattle.vc_http_heads.specs.Ends.{count_lines, end_from, head_len, is_large, skip_blank}
use Rattle.vc_http_heads.specs.Fields.{has_host, keeps, length_in}
use Rattle.vc_http_heads.specs.Heads.{HeadAt, HeadOf, Said, cut, head_said, path_of, refused, said_by, whole}

-- where a head ends
short : head_len (codes "a\r\n\r\nb") ≡ Some 5
short = refl

bare : head_len (codes "a\n\nb") ≡ Some 3
bare = refl

mixed : head_len (codes "a\r\n\nb") ≡ Some 4
mixed = refl

-- CR and LF in front count, and end nothing
before : head_len (codes "\n\n\r\na\n\n") ≡ Some 7
before = refl

skipped : skip_blank (codes "\n\n\r\na\n\n") ≡ codes "a\n\n"
skipped = refl

blank : head_len (codes "\r\n\r\n\r\n") ≡ None
blank = refl

-- a CR ends nothing alone, nor do two of them
returns : head_len (codes "a\n\r\rb\n") ≡ None
returns = refl

open_line : head_len (codes "a\r\nb\r\n") ≡ None
open_line = refl

-- 8,192 bytes and 66 LF are as many as may be
fits : is_large (codes "a\n\n") 8192 ≡ false
fits = refl

large : is_large (codes "a\n\n") 8193 ≡ true
large = refl

abbrev line_feeds : ℕ → List ℕ
line_feeds zero = []
line_feeds (suc n) = 10 ∷ line_feeds n

as_many_lines : is_large (line_feeds 66) 66 ≡ false
as_many_lines = refl

too_many_lines : is_large (line_feeds 67) 67 ≡ true
too_many_lines = refl

-- those behind the head don't count
lines_behind : is_large (line_feeds 67) 66 ≡ false
lines_behind = refl

-- fields
abbrev host : List ℕ × List ℕ
host = (codes "HOST", codes "d")

one_host : has_host 1 (host ∷ []) ≡ true
one_host = refl

no_host : has_host 1 [] ≡ false
no_host = refl

two_hosts : has_host 1 (host ∷ (codes "Host", codes "e") ∷ []) ≡ false
two_hosts = refl

old_host : has_host 0 [] ≡ true
old_host = refl

abbrev length_field : List ℕ → List ℕ × List ℕ
length_field value = (codes "Content-Length", value)

length_12 : length_in (length_field (codes "12") ∷ []) ≡ lengths.Given 12
length_12 = refl

zeros : length_in (length_field (codes "000000007") ∷ []) ≡ lengths.Given 7
zeros = refl

ten_digits : length_in (length_field (codes "0000000007") ∷ []) ≡ lengths.Bad
ten_digits = refl

no_digits : length_in (length_field [] ∷ []) ≡ lengths.Bad
no_digits = refl

signed : length_in (length_field (codes "+12") ∷ []) ≡ lengths.Bad
signed = refl

twice : length_in (length_field (codes "12") ∷ length_field (codes "12") ∷ []) ≡ lengths.Bad
twice = refl

listed : length_in (length_field (codes "12, 12") ∷ []) ≡ lengths.Bad
listed = refl

-- the whole value of a Connection field closes
goes_on : keeps 1 [] ≡ true
goes_on = refl

closes : keeps 1 ((codes "connection", codes "Close") ∷ []) ≡ false
closes = refl

one_of_two : keeps 1 ((codes "connection", codes "close, te") ∷ []) ≡ true
one_of_two = refl

second : keeps 1 ((codes "connection", codes "te") ∷ (codes "Connection", codes "close") ∷ []) ≡ false
second = refl

old : keeps 0 [] ≡ false
old = refl

-- the path
query : path_of (codes "/sessions/a?b?c") ≡ codes "/sessions/a"
query = refl

-- 400 comes before 501
chunked : said_by 9 (codes "POST") (codes "/") 1 (host ∷ (codes "transfer-encoding", codes "chunked") ∷ [])
    ≡ refused 501
chunked = refl

hostless : said_by 9 (codes "POST") (codes "/") 1 ((codes "transfer-encoding", codes "chunked") ∷ []) ≡ refused 400
hostless = refl

get : said_by 9 (codes "GET") (codes "/sessions?x") 1 (host ∷ [])
    ≡ whole (record { size = 9; method = codes "GET"; path = codes "/sessions"; body = None; keep = true })
get = refl

no_head : head_said 9 None ≡ refused 400
no_head = refl

-- letters that no line ends, and with two LF behind them
letters : ℕ → List ℕ
letters zero = []
letters (suc n) = 97 ∷ letters n

letters_length : (n : ℕ) → length (letters n) ≡ n
unfolding letters
letters_length zero = refl
letters_length (suc n) = ap suc (letters_length n)

letters_open : (n count : ℕ) → end_from place.Inside count (letters n) ≡ None
unfolding letters
letters_open zero count = refl
letters_open (suc n) count = letters_open n (count + 1)

letters_head : (n : ℕ) → head_len (letters n) ≡ None
unfolding letters
letters_head zero = refl
letters_head (suc n) = letters_open n 1

open_head : (n : ℕ) (is : Said) → is ≡ (if nat_le 8192 n then refused 431 else cut) → HeadOf (letters n) is
open_head n is h =
    subst (λ len. HeadAt (letters n) len is) (sym (letters_head n))
    (h ∙ ap (λ m. if nat_le 8192 m then refused 431 else cut) (sym (letters_length n)))

open_8191 : HeadOf (letters 8191) cut
open_8191 = open_head 8191 cut refl

open_8192 : HeadOf (letters 8192) (refused 431)
open_8192 = open_head 8192 (refused 431) refl

abbrev ended : ℕ → List ℕ
ended n = letters n ++ 10 ∷ 10 ∷ []

letters_end : (n count : ℕ) → end_from place.Inside count (ended n) ≡ Some (count + (n + 2))
unfolding letters
letters_end zero count = ap Some (omega arith)
letters_end (suc n) count = letters_end n (count + 1) ∙ ap Some (omega arith)

ended_head : (n : ℕ) → head_len (ended (suc n)) ≡ Some (n + 3)
unfolding letters
ended_head n = letters_end n 1 ∙ ap Some (omega arith)

ended_lines : (n : ℕ) → count_lines (ended n) ≡ 2
unfolding letters
ended_lines zero = refl
ended_lines (suc n) = omega (arith, ended_lines n)

ended_8193 : HeadOf (ended 8191) (refused 431)
ended_8193 = subst (λ len. HeadAt (ended 8191) len (refused 431)) (sym (ended_head 8190)) refl

ended_whole : (n : ℕ) → take (n + 2) (ended n) ≡ ended n
unfolding letters
ended_whole zero = refl
ended_whole (suc n) =
    let next : suc n + 2 ≡ suc (n + 2) = omega arith in
    ap (λ m. take m (ended (suc n))) next ∙ ap (λ bytes. 97 ∷ bytes) (ended_whole n)

ended_8192 : is_large (ended 8190) 8192 ≡ false
ended_8192 = ap (λ bytes. nat_lt 66 (count_lines bytes)) (ended_whole 8190) ∙ ap (nat_lt 66) (ended_lines 8190)
