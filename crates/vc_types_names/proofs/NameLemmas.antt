-- First places of names, in lists that grow.
use Rattle.std.proofs.Common.{◌≡◌, ℕ, suc, ◌+◌, ◌<◌, ◌≤◌, Bool, true, false, cond, not, eqb, ltb, List, [], ◌∷◌, ◌++◌}
use Rattle.std.proofs.Common.{length, get_or, take, refl, sym, ap, ◌∙◌, subst, inl, inr, arith, Option, Some, None}
use Rattle.std.proofs.Common.{if◌then◌else◌, nat_lt, nat_eq, is_some, length-append}
use Rattle.std.proofs.Math.Seq.{take-suc}
use Rattle.std.specs.Cmp.Lexicographic.{pointwise}
use Rattle.std.specs.Option.{option_or}
use Rattle.std.specs.Str.{bytes_eq}
use Rattle.std.specs.List.{find, position, position_or_len, slice_get}
use Rattle.std.specs.Map.{lookup}
use Rattle.std.proofs.lemmas.Bool.Decides.{nat_tests}
use Rattle.std.proofs.lemmas.Cmp.{nat_list_eq_equiv}
use Rattle.std.proofs.lemmas.List.{length-take-le, take_all}
use Rattle.std.proofs.lemmas.List.Folds.{position_or_len_push, find_at}
use Rattle.std.proofs.lemmas.List.Sums.{prefix_len-le-length}
use Rattle.std.proofs.lemmas.Option.{slice_get_past}

-- a name of two lists is found in the first, or else in the second
pub lookup_join : {K V : Type 0} (test : K → Bool) (first second : List (K × V))
    → lookup test (first ++ second) ≡ option_or (lookup test first) (lookup test second)
lookup_join test [] second = refl
lookup_join test (pair ∷ pairs) second = by (test pair.0) (lookup_join test pairs second)
  where
    by : (b : Bool) → lookup test (pairs ++ second) ≡ option_or (lookup test pairs) (lookup test second)
        → cond b (Some pair.1) (lookup test (pairs ++ second))
        ≡ option_or (cond b (Some pair.1) (lookup test pairs)) (lookup test second)
    by true more = refl
    by false more = more

-- a name with its value goes last
pub lookup_push : {K V : Type 0} (bytes : K → List ℕ) (pairs : List (K × V)) (key : K) (value : V) (name other : List ℕ)
    → bytes key ≡ name
    → lookup (λ k. pointwise nat_eq other (bytes k)) (pairs ++ (key, value) ∷ [])
    ≡ option_or (lookup (λ k. pointwise nat_eq other (bytes k)) pairs)
    (if bytes_eq name other then Some value else None)
lookup_push bytes pairs key value name other same =
    lookup_join (λ k. pointwise nat_eq other (bytes k)) pairs ((key, value) ∷ [])
    ∙ ap (λ b. option_or (lookup (λ k. pointwise nat_eq other (bytes k)) pairs) (cond b (Some value) None))
    (nat_list_eq_equiv.symm other (bytes key) ∙ ap (λ n. pointwise nat_eq n other) same)

pub is_absent : {V : Type 0} (value : Option V) → is_some value ≡ false → value ≡ None
is_absent None none = refl
is_absent (Some v) none = absurd (cc none)

-- the first place in a list with one more element
place_step : (n m count : ℕ) (b : Bool) → n ≤ count → m ≡ cond (eqb n count) (count + cond b 0 1) n
    → cond (nat_lt m (count + 1)) (Some m) None
    ≡ option_or (cond (nat_lt n count) (Some n) None) (if b then Some count else None)
place_step n m count true most is = grind (arith, nat_tests)
place_step n m count false most is = grind (arith, nat_tests)

pub place_push : {X : Type 0} (p : X → Bool) (xs : List X) (y : X)
    → position p (xs ++ y ∷ []) ≡ option_or (position p xs) (if p y then Some (length xs) else None)
place_push p xs y =
    ap (λ n. cond (nat_lt (position_or_len p (xs ++ y ∷ [])) n) (Some (position_or_len p (xs ++ y ∷ []))) None)
    (length-append xs (y ∷ []))
    ∙ place_step (position_or_len p xs) (position_or_len p (xs ++ y ∷ [])) (length xs) (p y)
    (prefix_len-le-length (λ x. not (p x)) xs) (position_or_len_push p xs y)

-- places that agree so far agree with the next element
pub place_next : {X : Type 0} (p : X → Bool) (xs : List X) (i : ℕ) (x : X) → i < length xs → x ≡ get_or xs i x
    → position p (take (i + 1) xs) ≡ option_or (position p (take i xs)) (if p x then Some i else None)
place_next p xs i x inside is =
    ap (position p) (take_next xs i x inside is) ∙ place_push p (take i xs) x
    ∙ ap (λ n. option_or (position p (take i xs)) (if p x then Some n else None)) (length-take-le i xs (omega arith))
  where
    take_next : {X : Type 0} (xs : List X) (i : ℕ) (x : X) → i < length xs → x ≡ get_or xs i x
        → take (i + 1) xs ≡ take i xs ++ x ∷ []
    take_next xs i x inside is = let next : i + 1
        ≡ suc i = omega arith in ap (λ n. take n xs) next ∙ take-suc xs i x inside
        ∙ ap (λ e. take i xs ++ e ∷ []) (sym is)

-- what is at the first place is what is found
place_is : {X : Type 0} (xs : List X) (b : Bool) (m n : ℕ) → cond b (Some m) None ≡ Some n
    → slice_get xs n ≡ slice_get xs m
place_is xs true m n is = ap (λ o. slice_get xs (value_or o)) (sym is)
  where
    value_or : Option ℕ → ℕ
    value_or None = 0
    value_or (Some k) = k
place_is xs false m n is = absurd (cc is)

pub found_there : {X : Type 0} (p : X → Bool) (xs : List X) (n : ℕ) → position p xs ≡ Some n
    → slice_get xs n ≡ find p xs
found_there p xs n is = place_is xs (nat_lt (position_or_len p xs) (length xs)) (position_or_len p xs) n is
    ∙ sym (find_at p xs)

pub found_nowhere : {X : Type 0} (p : X → Bool) (xs : List X) → position p xs ≡ None → None ≡ find p xs
found_nowhere p xs is =
    sym (find_at p xs ∙ slice_get_past xs (position_or_len p xs) (past (position_or_len p xs) (length xs) is))
  where
    past : (m n : ℕ) → cond (nat_lt m n) (Some m) None ≡ None → n ≤ m
    past m n is = grind (arith, nat_tests)

pub places_all : {X : Type 0} (p : X → Bool) (xs : List X) (i : ℕ) → length xs ≤ i
    → position p (take i xs) ≡ position p xs
places_all p xs i all = ap (position p) (take_all i xs all)

-- a place that is noted for one more element
pub place_more : {X : Type 0} (p : X → Bool) (xs : List X) (i : ℕ) (x : X) (before after : Option ℕ) (b : Bool)
    → i < length xs → x ≡ get_or xs i x
    → before ≡ position p (take i xs) → b ≡ p x → after ≡ option_or before (if b then Some i else None)
    → after ≡ position p (take (i + 1) xs)
place_more p xs i x before after b inside is so_far same added =
    added ∙ ap (λ o. option_or o (if b then Some i else None)) so_far
    ∙ ap (λ c. option_or (position p (take i xs)) (if c then Some i else None)) same
    ∙ sym (place_next p xs i x inside is)
