-- What each of a list has, and what stands slot by slot.
use Rattle.std.proofs.Common.{◌≡◌, ℕ, zero, suc, ◌+◌, ◌≤◌, Bool, true, false, cond, List, [], ◌∷◌, ◌++◌, map, flat_map}
use Rattle.std.proofs.Common.{Some, refl, sym, ◌∙◌, arith, subst}
use Rattle.std.specs.Prelude.{nat_le, slice_get}
use Rattle.std.specs.List.{filter, list_all}
use Rattle.std.proofs.lemmas.Bool.{and_parts, and_from, le-leb}
use Rattle.std.proofs.lemmas.List.Folds.{list_all-append}
use Rattle.vc_plan.specs.Orders.{are_in_order}
use Rattle.vc_plan.specs.declared.plans.Slot.{Slot}
use Rattle.vc_compile_plan.specs.Variables.{by_slot}

-- each has this
abbrev pub Each : {X : Type 0} → (X → Type 0) → List X → Type 0
Each P [] = Unit {0}
Each P (x ∷ xs) = P x × Each P xs

pub each_more : {X : Type 0} (P Q : X → Type 0) → ((x : X) → P x → Q x) → (xs : List X) → Each P xs → Each Q xs
each_more P Q of [] h = tt
each_more P Q of (x ∷ xs) h = (of x h.0, each_more P Q of xs h.1)

pub each_of_all : {X : Type 0} (P : X → Type 0) → ((x : X) → P x) → (xs : List X) → Each P xs
each_of_all P of [] = tt
each_of_all P of (x ∷ xs) = (of x, each_of_all P of xs)

pub each_passes : {X : Type 0} (P : X → Type 0) (test : X → Bool) → ((x : X) → P x → test x ≡ true) → (xs : List X)
    → Each P xs
    → list_all test xs ≡ true
each_passes P test of [] h = refl
each_passes P test of (x ∷ xs) h = and_from (test x) (list_all test xs) (of x h.0) (each_passes P test of xs h.1)

pub each_tested : {X : Type 0} (test : X → Bool) (xs : List X) → list_all test xs ≡ true → Each (λ x. test x ≡ true) xs
each_tested test [] h = tt
each_tested test (x ∷ xs) h =
    let parts = and_parts (test x) (list_all test xs) h in (parts.0, each_tested test xs parts.1)

pub each_joined : {X : Type 0} (P : X → Type 0) (xs ys : List X) → Each P xs → Each P ys → Each P (xs ++ ys)
each_joined P [] ys a b = b
each_joined P (x ∷ xs) ys a b = (a.0, each_joined P xs ys a.1 b)

pub each_both : {X : Type 0} (P Q : X → Type 0) (xs : List X) → Each P xs → Each Q xs → Each (λ x. P x × Q x) xs
each_both P Q [] a b = tt
each_both P Q (x ∷ xs) a b = ((a.0, b.0), each_both P Q xs a.1 b.1)

pub each_mapped : {X Y : Type 0} (P : Y → Type 0) (f : X → Y) (xs : List X) → Each (λ x. P (f x)) xs → Each P (map f xs)
each_mapped P f [] h = tt
each_mapped P f (x ∷ xs) h = (h.0, each_mapped P f xs h.1)

pub each_flat : {X Y : Type 0} (P : Y → Type 0) (f : X → List Y) (xs : List X) → Each (λ x. Each P (f x)) xs
    → Each P (flat_map f xs)
each_flat P f [] h = tt
each_flat P f (x ∷ xs) h = each_joined P (f x) (flat_map f xs) h.0 (each_flat P f xs h.1)

-- what is left of a list has what it had, and passes the test
pub each_left : {X : Type 0} (P : X → Type 0) (test : X → Bool) (xs : List X) → Each P xs
    → Each (λ x. (test x ≡ true) × P x) (filter test xs)
each_left P test [] h = tt
each_left P test (x ∷ xs) h = by (test x) refl (each_left P test xs h.1)
  where
    by : (b : Bool) → test x ≡ b → Each (λ x. (test x ≡ true) × P x) (filter test xs)
        → Each (λ x. (test x ≡ true) × P x) (cond b (x ∷ filter test xs) (filter test xs))
    by true e more = ((e, h.0), more)
    by false e more = more

-- each at its place
pub each_at : {X : Type 0} (P : X → Type 0) (xs : List X) → ((k : ℕ) (x : X) → slice_get xs k ≡ Some x → P x)
    → Each P xs
each_at P [] h = tt
each_at P (x ∷ xs) h = (h zero x refl, each_at P xs (λ k y e. h (suc k) y e))

-- what stands slot by slot has what it has at each slot
pub each_by_slot : {X : Type 0} (P : X → Type 0) (has : ℕ → Slot → List X) (i : ℕ) (slots : List Slot)
    → ((k : ℕ) (slot : Slot) → slice_get slots k ≡ Some slot → Each P (has (i + k) slot)) → Each P (by_slot has i slots)
each_by_slot P has i [] h = tt
each_by_slot P has i (slot ∷ slots) h =
    each_joined P (has i slot) (by_slot has (suc i) slots)
    (subst (λ n. Each P (has n slot)) (sym (no_more i)) (h zero slot refl))
    (each_by_slot P has (suc i) slots (λ k s e. subst (λ n. Each P (has n s)) (sym (one_more i k)) (h (suc k) s e)))
  where
    no_more : (n : ℕ) → n ≡ n + 0
    no_more n = omega arith

    one_more : (n k : ℕ) → suc n + k ≡ n + suc k
    one_more n k = omega arith

-- lists of which the first comes before the second
pub order_joined : {X : Type 0} (before : X → X → Bool) (xs ys : List X) → are_in_order before xs ≡ true
    → are_in_order before ys ≡ true → Each (λ x. list_all (before x) ys ≡ true) xs
    → are_in_order before (xs ++ ys) ≡ true
order_joined before [] ys a b h = b
order_joined before (x ∷ xs) ys a b h =
    let parts = and_parts (list_all (before x) xs) (are_in_order before xs) a in
    and_from (list_all (before x) (xs ++ ys)) (are_in_order before (xs ++ ys))
    (list_all-append (before x) xs ys ∙ and_from (list_all (before x) xs) (list_all (before x) ys) parts.0 h.0)
    (order_joined before xs ys parts.1 b h.1)

-- what is of one slot is in order of slots
order_alike : {X : Type 0} (slot_of : X → ℕ) (i : ℕ) (xs : List X) → Each (λ x. slot_of x ≡ i) xs
    → are_in_order (λ a b. nat_le (slot_of a) (slot_of b)) xs ≡ true
order_alike slot_of i [] h = refl
order_alike slot_of i (x ∷ xs) h =
    and_from (list_all (λ y. nat_le (slot_of x) (slot_of y)) xs)
    (are_in_order (λ a b. nat_le (slot_of a) (slot_of b)) xs)
    (each_passes (λ y. slot_of y ≡ i) (λ y. nat_le (slot_of x) (slot_of y))
    (λ y e. let a = h.0 in le-leb (slot_of x) (slot_of y) (omega (arith, a, e))) xs h.1)
    (order_alike slot_of i xs h.1)

-- and so is what stands slot by slot
pub order_by_slot : {X : Type 0} (slot_of : X → ℕ) (has : ℕ → Slot → List X)
    → ((i : ℕ) (slot : Slot) → Each (λ x. slot_of x ≡ i) (has i slot)) → (i : ℕ) (slots : List Slot)
    → are_in_order (λ a b. nat_le (slot_of a) (slot_of b)) (by_slot has i slots) ≡ true
order_by_slot slot_of has own i [] = refl
order_by_slot slot_of has own i (slot ∷ slots) =
    let before : _ → _ → Bool = λ a b. nat_le (slot_of a) (slot_of b) in
    let rest = by_slot has (suc i) slots in
    let above : Each (λ y. suc i ≤ slot_of y) rest =
    each_by_slot (λ y. suc i ≤ slot_of y) has (suc i) slots
    (λ k s e. each_more (λ y. slot_of y ≡ suc i + k) (λ y. suc i ≤ slot_of y) (λ y f. omega (arith, f))
    (has (suc i + k) s)
    (own (suc i + k) s)) in
    order_joined before (has i slot) rest (order_alike slot_of i (has i slot) (own i slot))
    (order_by_slot slot_of has own (suc i) slots)
    (each_more (λ x. slot_of x ≡ i) (λ x. list_all (before x) rest ≡ true)
    (λ x e. each_passes (λ y. suc i ≤ slot_of y) (before x)
    (λ y f. le-leb (slot_of x) (slot_of y) (omega (arith, e, f))) rest above) (has i slot) (own i slot))
