-- The segments of a path, cut at its first slash.
use Rattle.std.proofs.Common.{◌≡◌, ℕ, zero, suc, ◌+◌, ◌-◌, ◌<◌, ◌≤◌, Bool, true, false, cond, not, List, [], ◌∷◌}
use Rattle.std.proofs.Common.{length}
use Rattle.std.proofs.Common.{take, drop, Option, None, Some, refl, ap, sym, ◌∙◌, arith}
use Rattle.std.specs.Prelude.{nat_lt, position, slice_get}
use Rattle.std.specs.List.{onto_first, position_or_len, slice_split}
use Rattle.std.proofs.lemmas.Bool.{le-ltb, ltb-false, ltb-true}
use Rattle.std.proofs.lemmas.List.Splits.{slice_split_first}
use Rattle.vc_http_routes.specs.Routes.{is_slash}
use Rattle.vc_http_targets.specs.Targets.{Cuts}

pub found_cut : (path : List ℕ) (place : ℕ) → Some place ≡ position is_slash path
    → slice_split is_slash path ≡ take place path ∷ slice_split is_slash (drop (place + 1) path)
found_cut path place h = by (nat_lt (position_or_len is_slash path) (length path)) refl h
  where
    by : (v : Bool) → nat_lt (position_or_len is_slash path) (length path) ≡ v
        → Some place ≡ cond v (Some (position_or_len is_slash path)) None
        → slice_split is_slash path ≡ take place path ∷ slice_split is_slash (drop (place + 1) path)
    by true e f =
        let same : position_or_len is_slash path ≡ place = cc f in
        slice_split_first is_slash path 0 (ltb-true (position_or_len is_slash path) (length path) e)
        ∙ (λ j. take (same j) path ∷ slice_split is_slash (drop (same j + 1) path))
    by false e f = absurd (cc f)

whole : (path : List ℕ) → nat_lt (position_or_len is_slash path) (length path) ≡ false
    → slice_split is_slash path ≡ path ∷ []
whole [] h = refl
whole (x ∷ xs) h = by (is_slash x) h (whole xs)
  where
    by : (v : Bool) → nat_lt (cond (not v) (1 + position_or_len is_slash xs) 0) (suc (length xs)) ≡ false
        → (nat_lt (position_or_len is_slash xs) (length xs) ≡ false → slice_split is_slash xs ≡ xs ∷ [])
        → cond v ([] ∷ slice_split is_slash xs) (onto_first x (slice_split is_slash xs)) ≡ (x ∷ xs) ∷ []
    by true e more = absurd (omega (arith, ltb-false 0 (suc (length xs)) e))
    by false e more =
        let far = ltb-false (1 + position_or_len is_slash xs) (suc (length xs)) e in
        ap (onto_first x) (more (le-ltb (position_or_len is_slash xs) (length xs) (omega (arith, far))))

pub none_cut : (path : List ℕ) → None ≡ position is_slash path → slice_split is_slash path ≡ path ∷ []
none_cut path h = by (nat_lt (position_or_len is_slash path) (length path)) refl h
  where
    by : (v : Bool) → nat_lt (position_or_len is_slash path) (length path) ≡ v
        → None ≡ cond v (Some (position_or_len is_slash path)) None → slice_split is_slash path ≡ path ∷ []
    by true e f = absurd (cc f)
    by false e f = whole path e

-- the segment at a place, by those behind the first slash
pub next_segment : (path front rest : List ℕ) (n : ℕ) → slice_split is_slash path ≡ front ∷ slice_split is_slash rest
    → 0 < n → slice_get (slice_split is_slash path) n ≡ slice_get (slice_split is_slash rest) (n - 1)
next_segment path front rest zero cut some = absurd (omega (arith, some))
next_segment path front rest (suc n) cut some =
    ap (λ parts. slice_get parts (suc n)) cut ∙ ap (slice_get (slice_split is_slash rest)) (omega arith)

pub no_segment : (path front : List ℕ) (n : ℕ) → slice_split is_slash path ≡ front ∷ [] → 0 < n
    → slice_get (slice_split is_slash path) n ≡ None
no_segment path front zero cut some = absurd (omega (arith, some))
no_segment path front (suc n) cut some = ap (λ parts. slice_get parts (suc n)) cut

pub first_segment : (path front : List ℕ) (rest : Option (List ℕ)) → Cuts path front rest
    → slice_get (slice_split is_slash path) 0 ≡ Some front
first_segment path front None cut = ap (λ parts. slice_get parts 0) cut
first_segment path front (Some rest) cut = ap (λ parts. slice_get parts 0) cut

pub ruleset segment_rules = (next_segment, no_segment, first_segment)
