-- A path suits the tokens of a pattern exactly where it fits the pattern segment by segment.
use Rattle.std.proofs.Common.{◌≡◌, ℕ, Bool, true, false, cond, not, ◌&&◌, ◌||◌, ◌==◌, List, [], ◌∷◌, ◌++◌, refl, sym}
use Rattle.std.proofs.Common.{ap}
use Rattle.std.proofs.Common.{◌∙◌}
use Rattle.std.specs.Prelude.{if◌then◌else◌}
use Rattle.std.specs.List.{list_all, onto_first, slice_split}
use Rattle.std.specs.Str.{bytes_eq}
use Rattle.std.proofs.lemmas.Bool.{and_from, and_parts, eqb-true, not-true}
use Rattle.vc_http_routes.specs.Routes.{Segment, word, blank, fits, fits_segment, fits_segments, is_slash}
use Rattle.vc_http_routes.proofs.SearchLaws.{behind, or_none, suits, turned}

-- a pattern as a list of tokens
abbrev pub segment_tokens : Segment → List ℕ
segment_tokens (word text) = text
segment_tokens blank = 256 ∷ []

abbrev pub tokens : List Segment → List ℕ
tokens [] = []
tokens (first ∷ pattern) = 47 ∷ (segment_tokens first ++ tokens pattern)

-- words are of bytes other than a slash
abbrev is_plain : ℕ → Bool
is_plain byte = not (byte == 47) && not (byte == 256)

abbrev is_good : Segment → Bool
is_good (word text) = list_all is_plain text
is_good blank = true

abbrev pub are_good : List Segment → Bool
are_good pattern = list_all is_good pattern

-- the segments of what follows a path's first slash: the first, and the others
abbrev head : List ℕ → List ℕ
head [] = []
head (c ∷ cs) = if is_slash c then [] else c ∷ head cs

abbrev tail : List ℕ → List (List ℕ)
tail [] = []
tail (c ∷ cs) = if is_slash c then head cs ∷ tail cs else tail cs

split_is : (path : List ℕ) → slice_split is_slash path ≡ head path ∷ tail path
split_is [] = refl
split_is (c ∷ cs) =
    ap (λ parts. cond (is_slash c) ([] ∷ parts) (onto_first c parts)) (split_is cs) ∙ by (is_slash c)
  where
    by : (v : Bool) → cond v ([] ∷ head cs ∷ tail cs) ((c ∷ head cs) ∷ tail cs)
        ≡ cond v [] (c ∷ head cs) ∷ cond v (head cs ∷ tail cs) (tail cs)
    by true = refl
    by false = refl

and_assoc : (x y z : Bool) → (x && (y && z)) ≡ ((x && y) && z)
and_assoc true y z = refl
and_assoc false y z = refl

or_absorb : (p x y : Bool) → (x ≡ true → y ≡ true) → ((p && x) || y) ≡ y
or_absorb true true y h = sym (h refl)
or_absorb true false y h = refl
or_absorb false x y h = refl

-- where what is behind a parameter is suited at once, the parameter has ended
absorb : (pattern : List Segment) (path : List ℕ) → suits (tokens pattern) path ≡ true
    → behind (tokens pattern) path ≡ true
absorb [] [] h = refl
absorb [] (d ∷ ds) h = absurd (cc h)
absorb (s ∷ pattern) [] h = absurd (cc h)
absorb (s ∷ pattern) (d ∷ ds) h =
    let rest = segment_tokens s ++ tokens pattern in
    let both = and_parts (47 == d) (suits rest ds) (sym (or_none ((47 == d) && suits rest ds)) ∙ h) in
    ap (λ v. cond v (suits rest ds) (behind (47 ∷ rest) ds)) (sym (turned d) ∙ both.0) ∙ both.1

-- both sides of what is to be shown, at a path
abbrev Agrees : List ℕ → Type 0
Agrees path =
    ((first : Segment) (pattern : List Segment) → are_good (first ∷ pattern) ≡ true
    → suits (segment_tokens first ++ tokens pattern) path
    ≡ (fits_segment first (head path) && fits_segments pattern (tail path)))
    × ((pattern : List Segment) → are_good pattern ≡ true
    → behind (tokens pattern) path ≡ fits_segments pattern (tail path))

agrees_end : Agrees []
agrees_end = (first, behind_end)
  where
    first : (s : Segment) (pattern : List Segment) → are_good (s ∷ pattern) ≡ true
        → suits (segment_tokens s ++ tokens pattern) [] ≡ (fits_segment s [] && fits_segments pattern [])
    first (word []) [] h = refl
    first (word []) (next ∷ pattern) h = refl
    first (word (x ∷ text)) pattern h = refl
    first blank pattern h = refl

    behind_end : (pattern : List Segment) → are_good pattern ≡ true
        → behind (tokens pattern) [] ≡ fits_segments pattern []
    behind_end [] h = refl
    behind_end (next ∷ pattern) h = refl

-- at a slash
suits_slash : (c : ℕ) (cs : List ℕ) → (c == 47) ≡ true → Agrees cs → (first : Segment) (pattern : List Segment)
    → are_good (first ∷ pattern) ≡ true
    → suits (segment_tokens first ++ tokens pattern) (c ∷ cs)
    ≡ (fits_segment first [] && fits_segments pattern (head cs ∷ tail cs))
suits_slash c cs e more (word []) [] h = refl
suits_slash c cs e more (word []) (next ∷ pattern) h =
    let rest = segment_tokens next ++ tokens pattern in
    ap (λ v. (v && suits rest cs) || false) (turned c ∙ e) ∙ or_none (suits rest cs) ∙ more.0 next pattern h
suits_slash c cs e more (word (x ∷ text)) pattern h =
    let plain = and_parts (is_plain x) (list_all is_plain text)
    (and_parts (list_all is_plain (x ∷ text)) (are_good pattern) h).0 in
    let parts = and_parts (not (x == 47)) (not (x == 256)) plain.0 in
    let other : (x == c) ≡ false = ap (λ y. x == y) (eqb-true c 47 e) ∙ not-true (x == 47) parts.0 in
    ap
    (λ v. (v && suits (text ++ tokens pattern) cs)
    || ((x == 256) && (not (c == 47) && behind (text ++ tokens pattern) cs)))
    other
    ∙ ap (λ v. v && (not (c == 47) && behind (text ++ tokens pattern) cs)) (not-true (x == 256) parts.1)
suits_slash c cs e more blank pattern h =
    let far : (256 == c) ≡ false = ap (λ y. 256 == y) (eqb-true c 47 e) in
    ap (λ v. (v && suits (tokens pattern) cs) || (not (c == 47) && behind (tokens pattern) cs)) far
    ∙ ap (λ v. not v && behind (tokens pattern) cs) e

-- at another byte
suits_byte : (c : ℕ) (cs : List ℕ) → (c == 47) ≡ false → Agrees cs → (first : Segment) (pattern : List Segment)
    → are_good (first ∷ pattern) ≡ true
    → suits (segment_tokens first ++ tokens pattern) (c ∷ cs)
    ≡ (fits_segment first (c ∷ head cs) && fits_segments pattern (tail cs))
suits_byte c cs n more (word []) [] h = refl
suits_byte c cs n more (word []) (next ∷ pattern) h =
    ap (λ v. (v && suits (segment_tokens next ++ tokens pattern) cs) || false) (turned c ∙ n)
suits_byte c cs n more (word (x ∷ text)) pattern h =
    let goods = and_parts (list_all is_plain (x ∷ text)) (are_good pattern) h in
    let plain = and_parts (is_plain x) (list_all is_plain text) goods.0 in
    let parts = and_parts (not (x == 47)) (not (x == 256)) plain.0 in
    let rest = text ++ tokens pattern in
    ap (λ v. ((x == c) && suits rest cs) || (v && (not (c == 47) && behind rest cs))) (not-true (x == 256) parts.1)
    ∙ or_none ((x == c) && suits rest cs)
    ∙ ap (λ v. (x == c) && v)
    (more.0 (word text) pattern (and_from (list_all is_plain text) (are_good pattern) plain.1 goods.1))
    ∙ and_assoc (x == c) (bytes_eq text (head cs)) (fits_segments pattern (tail cs))
suits_byte c cs n more blank pattern h =
    ap (λ v. ((256 == c) && suits (tokens pattern) cs) || (not v && behind (tokens pattern) cs)) n
    ∙ or_absorb (256 == c) (suits (tokens pattern) cs) (behind (tokens pattern) cs) (absorb pattern cs)
    ∙ more.1 pattern h

agrees_more : (c : ℕ) (cs : List ℕ) → Agrees cs → Agrees (c ∷ cs)
agrees_more c cs more = (suits_at (c == 47) refl, behind_at (c == 47) refl)
  where
    behind_at : (v : Bool) → (c == 47) ≡ v → (pattern : List Segment) → are_good pattern ≡ true
        → behind (tokens pattern) (c ∷ cs) ≡ fits_segments pattern (cond v (head cs ∷ tail cs) (tail cs))
    behind_at true e [] h = ap (λ v. not v && behind [] cs) e
    behind_at false e [] h = ap (λ v. not v && behind [] cs) e ∙ more.1 [] h
    behind_at true e (next ∷ pattern) h =
        let rest = segment_tokens next ++ tokens pattern in
        ap (λ v. cond v (suits rest cs) (behind (47 ∷ rest) cs)) e ∙ more.0 next pattern h
    behind_at false e (next ∷ pattern) h =
        let rest = segment_tokens next ++ tokens pattern in
        ap (λ v. cond v (suits rest cs) (behind (47 ∷ rest) cs)) e ∙ more.1 (next ∷ pattern) h

    suits_at : (v : Bool) → (c == 47) ≡ v → (first : Segment) (pattern : List Segment)
        → are_good (first ∷ pattern) ≡ true
        → suits (segment_tokens first ++ tokens pattern) (c ∷ cs)
        ≡ (fits_segment first (cond v [] (c ∷ head cs)) && fits_segments pattern (cond v (head cs ∷ tail cs) (tail cs)))
    suits_at true e first pattern h = suits_slash c cs e more first pattern h
    suits_at false e first pattern h = suits_byte c cs e more first pattern h

agrees : (path : List ℕ) → Agrees path
agrees [] = agrees_end
agrees (c ∷ cs) = agrees_more c cs (agrees cs)

abbrev pub is_pattern : List Segment → Bool
is_pattern [] = false
is_pattern (first ∷ pattern) = are_good (first ∷ pattern)

pub suits_is : (pattern : List Segment) (path : List ℕ) → is_pattern pattern ≡ true
    → suits (tokens pattern) path ≡ fits pattern path
suits_is [] path h = absurd (cc h)
suits_is (first ∷ pattern) [] h = refl
suits_is (first ∷ pattern) (b ∷ path) h =
    let rest = segment_tokens first ++ tokens pattern in
    or_none ((47 == b) && suits rest path) ∙ (λ j. turned b j && (agrees path).0 first pattern h j)
    ∙ ap (λ parts. is_slash b && fits_segments (first ∷ pattern) parts) (sym (split_is path))
