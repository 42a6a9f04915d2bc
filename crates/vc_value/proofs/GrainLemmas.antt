-- Grains that ascend: what stands before what, one more at the end, and the search by halves.
use Rattle.std.proofs.Common.{◌≡◌, ℕ, zero, suc, ◌-◌, ◌<◌, ◌≤◌, Bool, true, false, ◌&&◌, List, [], ◌∷◌, ◌++◌, length}
use Rattle.std.proofs.Common.{get_or, refl, sym, ap, ◌∙◌, arith, Some, None, nat_lt, ℤ, ◌⊎◌, inl, inr}
use Rattle.std.specs.Prelude.{position}
use Rattle.std.specs.List.{list_all, position_or_len}
use Rattle.std.specs.List.Sorted.{IsPartitionedBy, IsPartitionPoint}
use Rattle.std.specs.Int.Signed.{lt_z, le_z}
use Rattle.std.proofs.lemmas.Int.{ints}
use Rattle.std.proofs.lemmas.Bool.Decides.{nat_tests}
use Rattle.std.proofs.lemmas.List.Sums.{position_or_len_is}
use Rattle.std.proofs.lemmas.List.Folds.{list_all-append, list_all_at}
use Rattle.vc_value.specs.declared.decimal.Dec.{Dec}
use Rattle.vc_value.specs.declared.grains.Grain.{Grain}
use Rattle.vc_value.specs.Grains.{holds, is_below, is_ordered, is_ascending}

pub both : (a b : Bool) → (a && b) ≡ true → (a ≡ true) × (b ≡ true)
both true b is = (refl, is)
both false b is = absurd (cc)

pub both_true : (a b : Bool) → a ≡ true → b ≡ true → (a && b) ≡ true
both_true a b p q = ap (λ x. x && b) p ∙ q

pub all_at : {X : Type 0} → (p : X → Bool) (xs : List X) (k : ℕ) (d : X) → list_all p xs ≡ true → k < length xs
    → p (get_or xs k d) ≡ true
all_at p [] k d all inside = absurd (omega arith)
all_at p (x ∷ xs) zero d all inside = (both (p x) (list_all p xs) all).0
all_at p (x ∷ xs) (suc k) d all inside = all_at p xs k d (both (p x) (list_all p xs) all).1 (omega arith)

pub all_from : {X : Type 0} → (p : X → Bool) (xs : List X) (d : X)
    → ((k : ℕ) → k < length xs → p (get_or xs k d) ≡ true) → list_all p xs ≡ true
all_from p [] d each = refl
all_from p (x ∷ xs) d each =
    both_true (p x) (list_all p xs) (each 0 (omega arith)) (all_from p xs d (λ k inside. each (suc k) (omega arith)))

-- what is at most another is below it or the same
pub at_most : (i j : ℕ) → i ≤ j → (i < j) ⊎ (i ≡ j)
at_most i j le = elim (nat_lt i j) as (λ b. nat_lt i j ≡ b → (i < j) ⊎ (i ≡ j))
    [ true ↦ λ e. inl (grind (arith, nat_tests)) | false ↦ λ e. inr (grind (arith, nat_tests)) ] refl

-- a grain lies below each that follows it
pub ascending_at : (grains : List Grain) (j k : ℕ) (d : Grain) → is_ascending grains ≡ true → j < k → k < length grains
    → lt_z (get_or grains j d).high.millionths (get_or grains k d).low.millionths ≡ true
ascending_at [] j k d ascend before inside = absurd (omega arith)
ascending_at (g ∷ gs) j zero d ascend before inside = absurd (omega arith)
ascending_at (g ∷ gs) zero (suc k) d ascend before inside =
    all_at (λ later. is_below later.low g) gs k d
    (both (list_all (λ later. is_below later.low g) gs) (is_ascending gs) (both (is_ordered g) _ ascend).1).0
    (omega arith)
ascending_at (g ∷ gs) (suc j) (suc k) d ascend before inside =
    ascending_at gs j k d
    (both (list_all (λ later. is_below later.low g) gs) (is_ascending gs) (both (is_ordered g) _ ascend).1).1
    (omega arith) (omega arith)

pub ordered_at : (grains : List Grain) (k : ℕ) (d : Grain) → is_ascending grains ≡ true → k < length grains
    → le_z (get_or grains k d).low.millionths (get_or grains k d).high.millionths ≡ true
ordered_at [] k d ascend inside = absurd (omega arith)
ordered_at (g ∷ gs) zero d ascend inside = (both (is_ordered g) _ ascend).0
ordered_at (g ∷ gs) (suc k) d ascend inside =
    ordered_at gs k d (both (list_all (λ later. is_below later.low g) gs) (is_ascending gs)
    (both (is_ordered g) _ ascend).1).1 (omega arith)

-- three numbers in a row, of which the first is below the last
between : (a b c e : ℤ) → lt_z a b ≡ true → le_z b c ≡ true → lt_z c e ≡ true → lt_z a e ≡ true
between a b c e p q r = grind (arith, ints)

-- what lies below a number has below it all that stands before
pub below_before : (n : Dec) (grains : List Grain) (i j : ℕ) (d : Grain) → is_ascending grains ≡ true → i ≤ j
    → j < length grains → is_below n (get_or grains j d) ≡ true → is_below n (get_or grains i d) ≡ true
below_before n grains i j d ascend le inside below =
    elim (at_most i j le) [
      | inl before ↦ between (get_or grains i d).high.millionths (get_or grains j d).low.millionths
          (get_or grains j d).high.millionths n.millionths (ascending_at grains i j d ascend before inside)
          (ordered_at grains j d ascend inside) below
      | inr same ↦ ap (λ k. is_below n (get_or grains k d)) same ∙ below
    ]

pub partitioned : (n : Dec) (grains : List Grain) → is_ascending grains ≡ true → IsPartitionedBy (is_below n) grains
partitioned n grains ascend i j d le inside below = below_before n grains i j d ascend le inside below

-- the last grain decides whether all lie below a number
pub last_below : (n : Dec) (grains : List Grain) (d : Grain) → is_ascending grains ≡ true → 0 < length grains
    → is_below n (get_or grains (length grains - 1) d) ≡ list_all (is_below n) grains
last_below n grains d ascend some =
    elim (is_below n (get_or grains (length grains - 1) d)) as
    (λ b. is_below n (get_or grains (length grains - 1) d) ≡ b → b ≡ list_all (is_below n) grains) [
      | true ↦ λ below. sym
          (all_from (is_below n) grains d
          (λ k inside. below_before n grains k (length grains - 1) d ascend (omega arith) (omega arith) below))
      | false ↦ λ above. sym (list_all_at (is_below n) grains (length grains - 1) d (omega arith) above)
    ] refl

-- a grain above all others may stand behind them
pub ascending_more : (grains : List Grain) (grain : Grain) → is_ascending grains ≡ true
    → list_all (is_below grain.low) grains ≡ true → is_ordered grain ≡ true → is_ascending (grains ++ grain ∷ []) ≡ true
ascending_more [] grain ascend above ordered = both_true (is_ordered grain) true ordered refl
ascending_more (g ∷ gs) grain ascend above ordered =
    let p : Grain → Bool = λ later. is_below later.low g in
    let rest = both (list_all p gs) (is_ascending gs) (both (is_ordered g) _ ascend).1 in
    let here = both (is_below grain.low g) (list_all (is_below grain.low) gs) above in
    both_true (is_ordered g) _ (both (is_ordered g) _ ascend).0 (both_true (list_all p (gs ++ grain ∷ [])) _
    (list_all-append p gs (grain ∷ []) ∙ both_true (list_all p gs) _ rest.0 (both_true (p grain) true here.0 refl))
    (ascending_more gs grain rest.1 here.1 ordered))

not_in_below : (n : Dec) (grain : Grain) → is_below n grain ≡ true → holds n grain ≡ false
not_in_below n grain below = grind (arith, ints)

not_in_above : (n : Dec) (grain later : Grain) → is_below n grain ≡ false
    → lt_z grain.high.millionths later.low.millionths ≡ true → holds n later ≡ false
not_in_above n grain later not_below above = grind (arith, ints)

position_some : {X : Type 0} (p : X → Bool) (xs : List X) (i : ℕ) → position_or_len p xs ≡ i → i < length xs
    → position p xs ≡ Some i
position_some p xs i is inside = grind (arith, nat_tests)

position_none : {X : Type 0} (p : X → Bool) (xs : List X) → position_or_len p xs ≡ length xs → position p xs ≡ None
position_none p xs is = grind (arith, nat_tests)

-- the first grain that isn't below the number is the one that may hold it
pub found : (n : Dec) (grains : List Grain) (i : ℕ) (d : Grain)
    → IsPartitionPoint (λ y. is_below n y ≡ true) (λ y. is_below n y ≡ false) grains i → i < length grains
    → holds n (get_or grains i d) ≡ true → position (holds n) grains ≡ Some i
found n grains i d point inside held = position_some (holds n) grains i
    (position_or_len_is (holds n) grains i d (omega arith)
    (λ k before. not_in_below n (get_or grains k d) (point.0 k d (omega arith) before)) (λ _. held)) inside

pub found_none : (n : Dec) (grains : List Grain) (i : ℕ) (d : Grain) → is_ascending grains ≡ true
    → IsPartitionPoint (λ y. is_below n y ≡ true) (λ y. is_below n y ≡ false) grains i → i ≤ length grains
    → (i < length grains → holds n (get_or grains i d) ≡ false) → position (holds n) grains ≡ None
found_none n grains i d ascend point inside out =
    position_none (holds n) grains (position_or_len_is (holds n) grains (length grains) d (omega arith)
    (λ k within. elim (nat_lt k i) as (λ b. nat_lt k i ≡ b → holds n (get_or grains k d) ≡ false) [
      | true ↦ λ e. let before : k < i = grind (arith, nat_tests) in
          not_in_below n (get_or grains k d) (point.0 k d (omega arith) before)
      | false ↦ λ e. let from : i ≤ k = grind (arith, nat_tests) in elim (at_most i k from) [
        | inl past ↦ not_in_above n (get_or grains i d) (get_or grains k d) (point.1 i d (omega arith) (omega arith))
            (ascending_at grains i k d ascend past within)
        | inr same ↦ ap (λ j. holds n (get_or grains j d)) (sym same) ∙ out (omega arith)
      ]
    ] refl) (λ past. absurd (omega arith)))
