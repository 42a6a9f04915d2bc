-- The flags mark just the numbers that wait, also after one came or went.
use Rattle.std.proofs.Common.{◌≡◌, ℕ, zero, suc, ◌+◌, ◌-◌, ◌<◌, ◌≤◌, Bool, true, false, not, ◌||◌, List, [], ◌∷◌, ◌++◌}
use Rattle.std.proofs.Common.{length, take, refl, sym, ◌∙◌, ap, subst, inl, inr, arith, length-append}
use Rattle.std.specs.Prelude.{nat_eq, nat_lt, replicate, slice_index_or, slice_set, if◌then◌else◌}
use Rattle.std.specs.List.{AllByRecursion, IsDistinct}
use Rattle.std.proofs.lemmas.Bool.{and_from, cases_lt, lt-ltb, not_from_false}
use Rattle.std.proofs.lemmas.List.{get_or-set_other, get_or-set_same, length-replicate, length-set}
use Rattle.std.proofs.lemmas.List.{length-take-le, take_more_set}
use Rattle.std.proofs.lemmas.List.Folds.{list_any-append}
use Rattle.std.proofs.lemmas.Map.Steps.{length-le_from_distinct_below}
use Rattle.vc_base.specs.Sets.{has}
use Rattle.vc_base.proofs.ListLaws.{number_exact, number_itself}
use Rattle.vc_base.proofs.SetLaws.{both, has_back, has_cases, has_either, has_first, told, distinct_more}
use Rattle.vc_rule_yield.specs.Filling.{Filled}
use Rattle.vc_net_agenda.specs.Pending.{IsMarked, IsStacked, pushed, stack_in, with_last}

-- past the end there is no flag
past_none : (flags : List Bool) (n : ℕ) → length flags ≤ n → slice_index_or flags n false ≡ false
past_none [] n past = refl
past_none (b ∷ flags) zero past = absurd (omega (arith, past))
past_none (b ∷ flags) (suc n) past = past_none flags n (omega (arith, past))

marked_below : (flags : List Bool) (n : ℕ) → slice_index_or flags n false ≡ true → n < length flags
marked_below flags n e =
    elim (cases_lt n (length flags)) [
      | inl below ↦ below
      | inr past ↦ absurd (both e (past_none flags n past))
    ]

-- no flag is set at first
none_set : (count n : ℕ) → slice_index_or (replicate count false) n false ≡ false
none_set zero n = refl
none_set (suc count) zero = refl
none_set (suc count) (suc n) = none_set count n

pub marked_none : (flags : List Bool) (places : List ℕ) (count : ℕ) → flags ≡ replicate count false
    → places ≡ replicate count 0 → IsStacked flags places 0
unfolding IsDistinct
marked_none flags places count e f = record {
  marked = record {
    long =
        ap length e ∙ (length-replicate count false ∙ (sym (length-replicate count 0) ∙ sym (ap length f)));
    marks = λ n. ap (λ fs. slice_index_or fs n false) e ∙ none_set count n;
    once = tt;
  };
  fits = omega arith;
}

pub none_yet : (places : List ℕ) (count : ℕ) → places ≡ replicate count 0
    → stack_in places 0 ≡ record { items = []; room = count }
none_yet places count e = ap (stacked []) (ap length e ∙ length-replicate count 0)
  where
    stacked : List ℕ → ℕ → Filled ℕ
    stacked xs room = record { items = xs; room = room }

-- another number is in a list with one more just where it was in the list
or_false : (b : Bool) → (b || false) ≡ b
or_false true = refl
or_false false = refl

other_has : (xs : List ℕ) (n m : ℕ) → nat_eq m n ≡ false → has nat_eq (xs ++ n ∷ []) m ≡ has nat_eq xs m
other_has xs n m e =
    list_any-append (nat_eq m) xs (n ∷ []) ∙ (ap (λ b. has nat_eq xs m || (b || false)) e ∙ or_false (has nat_eq xs m))

apart : (n m : ℕ) → nat_eq m n ≡ false → m ≡ n → ⊥
apart n m e same = both (ap (λ k. nat_eq k n) same ∙ number_itself n) e

-- the number itself is in it
last_has : (xs : List ℕ) (n m : ℕ) → nat_eq m n ≡ true → has nat_eq (xs ++ n ∷ []) m ≡ true
last_has xs n m e =
    has_back nat_eq number_exact number_itself xs (n ∷ []) m
    (subst (λ k. has nat_eq (n ∷ []) k ≡ true) (sym (number_exact m n e))
    (has_first nat_eq number_exact number_itself n []))

-- a number that comes
pub comes : (flags : List Bool) (stack : Filled ℕ) (n : ℕ) → IsMarked flags stack → n < stack.room
    → has nat_eq stack.items n ≡ false → IsMarked (slice_set flags n true) (with_last stack n)
comes flags stack n m below new = record {
  long = length-set flags n true ∙ m.long;
  marks = λ k. elim (told (nat_eq k n)) [
    | inl e ↦
        ap (λ z. slice_index_or (slice_set flags n true) z false) (number_exact k n e)
        ∙ (get_or-set_same flags n true false (omega (arith, below, m.long)) ∙ sym (last_has stack.items n k e))
    | inr e ↦ get_or-set_other flags n k true false (apart n k e) ∙ (m.marks k ∙ sym (other_has stack.items n k e))
  ];
  once = distinct_more nat_eq number_exact number_itself stack.items n m.once new;
}

-- there is room for it
room_left : (flags : List Bool) (stack : Filled ℕ) (n : ℕ) → IsMarked flags stack → n < stack.room
    → has nat_eq stack.items n ≡ false → length stack.items + 1 ≤ stack.room
room_left flags stack n m below new =
    let all : length (stack.items ++ n ∷ []) ≤ stack.room
    = length-le_from_distinct_below (stack.items ++ n ∷ []) stack.room
    (distinct_more nat_eq number_exact number_itself stack.items n m.once new)
    (λ k h. elim (has_either nat_eq number_exact number_itself stack.items (n ∷ []) k h) [
      | inl p ↦ let low = marked_below flags k (m.marks k ∙ p) in omega (arith, low, m.long)
      | inr p ↦ elim (has_cases nat_eq number_exact number_itself n [] k p) [
        | inl q ↦ omega (arith, q, below)
        | inr q ↦ absurd (cc)
      ]
    ]) in
    omega (arith, all, length-append stack.items (n ∷ []))

may_push : (stack : Filled ℕ) (n : ℕ) → n < stack.room → has nat_eq stack.items n ≡ false
    → pushed stack n ≡ with_last stack n
may_push stack n below new =
    ap (λ b. if b then with_last stack n else stack)
    (and_from (nat_lt n stack.room) (not (has nat_eq stack.items n)) (lt-ltb n stack.room below)
    (not_from_false (has nat_eq stack.items n) new))

pub place_left : (flags : List Bool) (places : List ℕ) (count n : ℕ) → IsStacked flags places count
    → n < length places → has nat_eq (take count places) n ≡ false → count < length places
place_left flags places count n m below new =
    let room = room_left flags (stack_in places count) n m.marked below new in
    omega (arith, room, length-take-le count places m.fits)

pub is_pushed : (flags later : List Bool) (places next : List ℕ) (count n : ℕ) → IsStacked flags places count
    → n < length places → has nat_eq (take count places) n ≡ false → later ≡ slice_set flags n true
    → next ≡ slice_set places count n
    → IsStacked later next (count + 1) × (stack_in next (count + 1) ≡ pushed (stack_in places count) n)
is_pushed flags later places next count n m below new e f =
    let stack = stack_in places count in
    let small : count < length places = place_left flags places count n m below new in
    let long : length (slice_set places count n) ≡ length places = length-set places count n in
    let is : stack_in next (count + 1) ≡ with_last stack n
    = ap (λ ps. stack_in ps (count + 1)) f
    ∙ (ap (λ (xs : List ℕ). stacked xs (length (slice_set places count n))) (take_more_set places count n small)
    ∙ ap (stacked (take count places ++ n ∷ [])) long) in (
      record {
        marked = subst (λ fs. IsMarked fs (stack_in next (count + 1))) (sym e)
            (subst (IsMarked (slice_set flags n true)) (sym is) (comes flags stack n m.marked below new));
        fits = subst (λ ps. count + 1 ≤ length ps) (sym f) (omega (arith, small, long));
      },
      is ∙ sym (may_push stack n below new),
    )
  where
    stacked : List ℕ → ℕ → Filled ℕ
    stacked xs room = record { items = xs; room = room }

-- one more of a list's first elements
take_last : (xs : List ℕ) (k : ℕ) → k < length xs → take (k + 1) xs ≡ take k xs ++ slice_index_or xs k 0 ∷ []
take_last [] k e = absurd (omega (arith, e))
take_last (x ∷ xs) zero e = refl
take_last (x ∷ xs) (suc k) e =
    let more : suc k + 1 ≡ suc (k + 1) = omega arith in
    ap (λ n. take n (x ∷ xs)) more ∙ ap (λ zs. x ∷ zs) (take_last xs k (omega (arith, e)))

-- what comes last once isn't before it, and what is before it is there once
front_apart : (x : ℕ) (xs : List ℕ) (n : ℕ) → AllByRecursion (λ y. nat_eq x y ≡ false) (xs ++ n ∷ [])
    → AllByRecursion (λ y. nat_eq x y ≡ false) xs × (nat_eq x n ≡ false)
front_apart x [] n h = (tt, h.0)
front_apart x (y ∷ xs) n h = let r = front_apart x xs n h.1 in ((h.0, r.0), r.1)

front_once : (xs : List ℕ) (n : ℕ) → IsDistinct nat_eq (xs ++ n ∷ []) → IsDistinct nat_eq xs × (has nat_eq xs n ≡ false)
unfolding IsDistinct
front_once [] n d = (tt, refl)
front_once (x ∷ xs) n d =
    let r = front_once xs n d.1 in
    let s = front_apart x xs n d.0 in
    let turned : nat_eq n x ≡ false
    = elim (told (nat_eq n x)) [
      | inl e ↦ absurd (apart n x s.1 (sym (number_exact n x e)))
      | inr e ↦ e
    ] in
    ((s.0, r.0), ap (λ b. b || has nat_eq xs n) turned ∙ r.1)

-- a number that goes
goes : (flags : List Bool) (xs : List ℕ) (room n : ℕ) → IsMarked flags (record { items = xs ++ n ∷ []; room = room })
    → IsMarked (slice_set flags n false) (record { items = xs; room = room })
goes flags xs room n m =
    let once : IsDistinct nat_eq xs × (has nat_eq xs n ≡ false) = front_once xs n m.once in
    let below : n < length flags = marked_below flags n (m.marks n ∙ last_has xs n n (number_itself n)) in
    record {
      long = length-set flags n false ∙ m.long;
      marks = λ k. elim (told (nat_eq k n)) [
        | inl e ↦
            ap (λ z. slice_index_or (slice_set flags n false) z false) (number_exact k n e)
            ∙ (get_or-set_same flags n false false below ∙ sym (ap (has nat_eq xs) (number_exact k n e) ∙ once.1))
        | inr e ↦ get_or-set_other flags n k false false (apart n k e) ∙ (m.marks k ∙ other_has xs n k e)
      ];
      once = once.0;
    }

-- the numbers before the last one went, where there is one
module _ (flags : List Bool) (places : List ℕ) (count : ℕ)
    (m : IsStacked flags places count) (some : count ≡ 0 → ⊥) where
  positive : (n : ℕ) → (n ≡ 0 → ⊥) → 0 < n
  positive zero f = absurd (f refl)
  positive (suc n) f = omega arith

  abbrev front : List ℕ
  front = take (count - 1) places

  abbrev last : ℕ
  last = slice_index_or places (count - 1) 0

  pub place_there : count - 1 < length places
  place_there = let low = positive count some in omega (arith, low, m.fits)

  all : take count places ≡ front ++ last ∷ []
  all =
      let low = positive count some in
      let one_less : count ≡ (count - 1) + 1 = omega (arith, low) in
      ap (λ n. take n places) one_less ∙ take_last places (count - 1) place_there

  pub is_last : stack_in places count ≡ with_last (stack_in places (count - 1)) last
  is_last = ap (λ (xs : List ℕ). stacked xs) all
    where
      stacked : List ℕ → Filled ℕ
      stacked xs = record { items = xs; room = length places }

  split : IsMarked flags (record { items = front ++ last ∷ []; room = length places })
  split = subst (IsMarked flags) is_last m.marked

  -- the last number has a flag, and goes with it
  pub last_below : last < length flags
  last_below = marked_below flags last (split.marks last ∙ last_has front last last (number_itself last))

  pub is_popped : (later : List Bool) → later ≡ slice_set flags last false → IsStacked later places (count - 1)
  is_popped later e = record {
    marked =
        subst (λ fs. IsMarked fs (stack_in places (count - 1))) (sym e)
        (goes flags front (length places) last split);
    fits = omega (arith, place_there);
  }
