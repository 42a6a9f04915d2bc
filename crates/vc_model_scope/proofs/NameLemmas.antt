-- Tests of names, carried through the keys that hold them.
use Rattle.std.proofs.Common.{◌≡◌, ℕ, zero, suc, ◌+◌, Bool, true, false, cond, ◌||◌, not, nat_lt, List, [], ◌∷◌, ◌++◌}
use Rattle.std.proofs.Common.{length, map, Some, None, if◌then◌else◌, refl, sym, ap, ◌∙◌, arith, unwrap_or}
use Rattle.std.specs.Cmp.{IsEquivalence}
use Rattle.std.specs.List.{AllByRecursion, IsDistinct, list_any, position, position_or_len, prefix_len, slice_get}
use Rattle.std.proofs.lemmas.Bool.{lt-ltb}
use Rattle.std.proofs.lemmas.List.{length-map, map-append}
use Rattle.std.proofs.lemmas.Option.{slice_get_within}

pub list_any-map : {X Y : Type 0} (f : X → Y) (p : Y → Bool) (xs : List X)
    → list_any p (map f xs) ≡ list_any (λ x. p (f x)) xs
list_any-map f p [] = refl
list_any-map f p (x ∷ xs) = ap (λ b. p (f x) || b) (list_any-map f p xs)

prefix_len-map : {X Y : Type 0} (f : X → Y) (p : Y → Bool) (xs : List X)
    → prefix_len p (map f xs) ≡ prefix_len (λ x. p (f x)) xs
prefix_len-map f p [] = refl
prefix_len-map f p (x ∷ xs) = ap (λ n. cond (p (f x)) (1 + n) 0) (prefix_len-map f p xs)

pub position-map : {X Y : Type 0} (f : X → Y) (p : Y → Bool) (xs : List X)
    → position p (map f xs) ≡ position (λ x. p (f x)) xs
position-map f p xs =
    ap (λ n. cond (nat_lt n (length (map f xs))) (Some n) None) (prefix_len-map f (λ y. not (p y)) xs)
    ∙ ap (λ n. cond (nat_lt (position_or_len (λ x. p (f x)) xs) n) (Some (position_or_len (λ x. p (f x)) xs)) None)
    (length-map xs f)

-- a key that is put last unless it is there
pub insert-map : {X Y : Type 0} (f : X → Y) (there : Bool) (xs : List X) (x : X)
    → map f (if there then xs else xs ++ x ∷ []) ≡ (if there then map f xs else map f xs ++ f x ∷ [])
insert-map f there xs x =
    elim there as (λ b. map f (if b then xs else xs ++ x ∷ []) ≡ (if b then map f xs else map f xs ++ f x ∷ []))
    [ true ↦ refl | false ↦ map-append f xs (x ∷ []) ]

-- a key that stands at a place is met there first, as none stands twice
module _ {K : Type 0} (same : K → K → Bool) (laws : IsEquivalence same) where
  some-inside : {a b : K} → Some a ≡ Some b → a ≡ b
  some-inside {a} e = ap (λ o. unwrap_or o a) e

  passes : (k x : K) (ks : List K) (b : Bool) → same k x ≡ b
      → position_or_len (same k) (x ∷ ks) ≡ cond (not b) (1 + position_or_len (same k) ks) 0
  passes k x ks b e = ap (λ t. cond (not t) (1 + position_or_len (same k) ks) 0) e

  differs : (x k : K) (ks : List K) (i : ℕ) → AllByRecursion (λ y. same x y ≡ false) ks → slice_get ks i ≡ Some k
      → same x k ≡ false
  differs x k [] i all at = absurd (omega (arith, slice_get_within [] i k at))
  differs x k (y ∷ ks) zero all at = ap (same x) (sym (some-inside at)) ∙ all.0
  differs x k (y ∷ ks) (suc i) all at = differs x k ks i all.1 at

  first_at : (ks : List K) (i : ℕ) (k : K) → IsDistinct same ks → slice_get ks i ≡ Some k
      → position_or_len (same k) ks ≡ i
  unfolding IsDistinct
  first_at [] i k distinct at = absurd (omega (arith, slice_get_within [] i k at))
  first_at (x ∷ ks) zero k distinct at = passes k x ks true (ap (same k) (some-inside at) ∙ laws.refl k)
  first_at (x ∷ ks) (suc i) k distinct at =
      passes k x ks false (laws.symm k x ∙ differs x k ks i distinct.0 at)
      ∙ ap (λ n. 1 + n) (first_at ks i k distinct.1 at) ∙ omega arith

  pub position-IsDistinct : (ks : List K) (i : ℕ) (k : K) → IsDistinct same ks → slice_get ks i ≡ Some k
      → position (same k) ks ≡ Some i
  position-IsDistinct ks i k distinct at =
      ap (λ n. cond (nat_lt n (length ks)) (Some n) None) (first_at ks i k distinct at)
      ∙ ap (λ b. cond b (Some i) None) (lt-ltb i (length ks) (slice_get_within ks i k at))
