-- What stands first among numbers in order from which on none comes before a target is the first in the list, if it is
-- like the target; and if it isn't, none is.
use Rattle.std.proofs.Common.{◌≡◌, ℕ, zero, suc, ◌<◌, ◌≤◌, Bool, true, false, cond, List, [], ◌∷◌, length, get_or}
use Rattle.std.proofs.Common.{refl, sym, ◌∙◌, ap, subst, true≢false, arith}
use Rattle.std.specs.Prelude.{slice_get, None, Some, IsPermutation, IsSorted, nat_lt, ◌==◌}
use Rattle.std.specs.List.{All, Contains, find}
use Rattle.std.specs.List.Sorted.{IsPartitionPoint, IsPartitionedBy}
use Rattle.std.specs.Cmp.{IsTotalOrder}
use Rattle.std.specs.Ordering.{is_eq, is_lt, nat_cmp, ordering_reverse, ordering_then}
use Rattle.std.specs.declared.cmp.Ordering.{Ordering}
use Rattle.std.specs.declared.cmp.Ordering.TheVariants.{Less, Equal, Greater}
use Rattle.std.proofs.lemmas.Cmp.{alike_right, nat_cmp_total, on_total, tied_back, then_total}
use Rattle.std.proofs.lemmas.Bool.{lt-ltb, ltb-false, ltb-true}
use Rattle.std.proofs.lemmas.List.FromFn.{get_or-range_with_len, length-range_with_len}
use Rattle.std.proofs.lemmas.List.Sorted.{All-permutation, Contains-permutation, ranks_by, sorted_far}
use Rattle.std.proofs.lemmas.Option.{get_or_from_slice_get, none-some, slice_get_within}
use Rattle.vc_plan.specs.Domains.{numbers_below}
use Rattle.vc_value.specs.declared.value.Value.{Value}
use Rattle.vc_proc_look_ups.specs.Orders.{row_in}

less_is : (r : Ordering) → is_lt r ≡ true → r ≡ Less
less_is Less e = refl
less_is Equal e = absurd (true≢false (sym e))
less_is Greater e = absurd (true≢false (sym e))

equal_is : (r : Ordering) → is_eq r ≡ true → r ≡ Equal
equal_is Less e = absurd (true≢false (sym e))
equal_is Equal e = refl
equal_is Greater e = absurd (true≢false (sym e))

greater_is : (r : Ordering) → is_lt r ≡ false → is_eq r ≡ false → r ≡ Greater
greater_is Less e f = absurd (true≢false e)
greater_is Equal e f = absurd (true≢false f)
greater_is Greater e f = refl

not_both : {b : Bool} → b ≡ true → b ≡ false → ⊥
not_both e f = true≢false (sym e ∙ f)

falls : (b : Bool) → (b ≡ true → ⊥) → b ≡ false
falls true out = absurd (out refl)
falls false out = refl

first_apart : (a b : Ordering) → is_lt (ordering_then a b) ≡ false → is_lt a ≡ false
first_apart Less b e = e
first_apart Equal b e = refl
first_apart Greater b e = refl

not_below : (j k : ℕ) → (j < k → ⊥) → k ≤ j
not_below j k out =
    elim (nat_lt j k) as
    (λ b. nat_lt j k ≡ b → k ≤ j) [ true ↦ λ e. absurd (out (ltb-true j k e)) | false ↦ λ e. ltb-false j k e ]
    refl

past_end : {X : Type 0} (xs : List X) (k : ℕ) → slice_get xs k ≡ None → length xs ≤ k
past_end [] k e = omega arith
past_end (x ∷ xs) zero e = absurd (none-some x (sym e))
past_end (x ∷ xs) (suc k) e = let more = past_end xs k e in omega (arith, more)

-- the first row that passes, and that none does
find_at : (p : List Value → Bool) (rows : List (List Value)) (n : ℕ) → n < length rows
    → p (row_in (slice_get rows n)) ≡ true
    → ((m : ℕ) → m < n → p (row_in (slice_get rows m)) ≡ false)
    → find p rows ≡ Some (row_in (slice_get rows n))
find_at p [] n low e out = absurd (omega (arith, low))
find_at p (row ∷ rows) zero low e out = ap (λ b. cond b (Some row) (find p rows)) e
find_at p (row ∷ rows) (suc n) low e out =
    ap (λ b. cond b (Some row) (find p rows)) (out 0 (omega arith))
    ∙ find_at p rows n (omega (arith, low)) e (λ m h. out (suc m) (omega (arith, h)))

find_none : (p : List Value → Bool) (rows : List (List Value))
    → ((m : ℕ) → m < length rows → p (row_in (slice_get rows m)) ≡ false) → find p rows ≡ None
find_none p [] out = refl
find_none p (row ∷ rows) out =
    ap (λ b. cond b (Some row) (find p rows)) (out 0 (omega arith))
    ∙ find_none p rows (λ m h. out (suc m) (omega (arith, h)))

module _ {K : Type 0} (R : K → K → Ordering) (o : IsTotalOrder R) where
  -- what doesn't come behind what is below the target is below it
  below_too : (x y t : K) → is_lt (R y x) ≡ false → R y t ≡ Less → R x t ≡ Less
  below_too x y t apart low = by (R x t) refl
    where
      by : (r : Ordering) → R x t ≡ r → r ≡ Less
      by Less e = refl
      by Equal e =
          absurd (not_both (ap is_lt (alike_right o x t y e ∙ low)) apart)
      by Greater e =
          absurd (not_both (ap is_lt (o.trans y t x low (o.antisymm t x ∙ ap ordering_reverse e))) apart)

  -- the numbers of rows stand by the keys of the rows, and then by themselves
  module _ (rows : List (List Value)) (key : List Value → K) where
    abbrev key_at : ℕ → K
    key_at n = key (row_in (slice_get rows n))

    abbrev stands : ℕ → ℕ → Ordering
    stands m n = ordering_then (R (key_at m) (key_at n)) (nat_cmp m n)

    stands_total : IsTotalOrder stands
    stands_total = then_total (on_total key_at o) nat_cmp_total

    module _ (order : List ℕ) (ascends : IsSorted stands order) where
      far : (i j d : ℕ) → i ≤ j → j < length order → is_lt (stands (get_or order j d) (get_or order i d)) ≡ false
      far i j d h low =
          sorted_far (λ m n. is_lt (stands m n)) (ranks_by stands_total (λ n. n)) order ascends i j d h low

      pub parted : (target : K) → IsPartitionedBy (λ n. is_lt (R (key_at n) target)) order
      parted target i j d h low e =
          let a = get_or order i d in
          let b = get_or order j d in
          ap is_lt
          (below_too (key_at a) (key_at b) target
          (first_apart (R (key_at b) (key_at a)) (nat_cmp b a) (far i j d h low))
          (less_is (R (key_at b) target) e))

      module _ (all : IsPermutation (numbers_below (length rows)) order) (target : K) (p : List Value → Bool)
          (same : (row : List Value) → p row ≡ is_eq (R (key row) target)) (place : ℕ)
          (point : IsPartitionPoint (λ n. is_lt (R (key_at n) target) ≡ true) (λ n. is_lt (R (key_at n) target) ≡ false)
          order place) where
        alike : (m : ℕ) → p (row_in (slice_get rows m)) ≡ true → R (key_at m) target ≡ Equal
        alike m e = equal_is (R (key_at m) target) (sym (same (row_in (slice_get rows m))) ∙ e)

        below : (n : ℕ) → slice_get order place ≡ Some n → n < length rows
        below n here =
            let all_below : All (λ m. m < length rows) (numbers_below (length rows)) = λ k d high.
            (let is = get_or-range_with_len 0 (length rows) k d
            (let long = length-range_with_len 0 (length rows) in omega (arith, long, high)) in
            let long = length-range_with_len 0 (length rows) in omega (arith, is, long, high)) in
            let here_below = All-permutation (λ m. m < length rows) (numbers_below (length rows)) order all all_below
            place n (slice_get_within order place n here) in
            subst (λ m. m < length rows) (get_or_from_slice_get order place n n here) here_below

        -- what is like the target stands at the place or behind it
        behind : (m : ℕ) → m < length rows → p (row_in (slice_get rows m)) ≡ true
            → (j : ℕ) × (j < length order) × (get_or order j m ≡ m) × (place ≤ j)
        behind m low e =
            let there : Contains (numbers_below (length rows)) m = (
              m,
              (let long = length-range_with_len 0 (length rows) in omega (arith, long, low)),
              (let is = get_or-range_with_len 0 (length rows) m m low in omega (arith, is)),
            ) in
            let c = Contains-permutation (numbers_below (length rows)) order m all there in (
              c.0,
              c.1,
              c.2,
              not_below c.0 place (λ h. not_both (point.0 c.0 m (omega arith) h)
                  (ap (λ k. is_lt (R (key_at k) target)) c.2 ∙ ap is_lt (alike m e))),
            )

        -- so nothing that comes before what stands at the place is like it
        module _ (n : ℕ) (here : slice_get order place ≡ Some n) where
          not_less : (m : ℕ) → m < length rows → p (row_in (slice_get rows m)) ≡ true → is_lt (stands m n) ≡ false
          not_less m low e =
              let at = behind m low e in
              sym (ap (λ k. is_lt (stands k n)) at.2)
              ∙ (sym (ap (λ k. is_lt (stands (get_or order at.0 m) k)) (get_or_from_slice_get order place n m here))
              ∙ far place at.0 m at.3 at.1)

          before : (m : ℕ) → m < n → p (row_in (slice_get rows n)) ≡ true → p (row_in (slice_get rows m)) ≡ false
          before m low e = falls (p (row_in (slice_get rows m))) (λ f.
              let tied : R (key_at m) (key_at n) ≡ Equal = o.congr (key_at m) target (key_at n) (alike m f)
              ∙ tied_back o (key_at n) target (alike n e) in
              let last : stands m n ≡ Less = ap (λ r. ordering_then r (nat_cmp m n)) tied
              ∙ ap (λ b. cond b Less (cond (m == n) Equal Greater)) (lt-ltb m n low) in
              let here_low = below n here in
              not_both (ap is_lt last) (not_less m (omega (arith, low, here_low)) f))

          apart : p (row_in (slice_get rows n)) ≡ false → (m : ℕ) → m < length rows
              → p (row_in (slice_get rows m)) ≡ false
          apart e m low = falls (p (row_in (slice_get rows m))) (λ f.
              let at_place : is_lt (R (key_at n) target) ≡ false = subst (λ k. is_lt (R (key_at k) target) ≡ false)
              (get_or_from_slice_get order place n n here)
              (point.1 place n (omega arith) (slice_get_within order place n here)) in
              let above : R (key_at n) target ≡ Greater = greater_is (R (key_at n) target) at_place
              (sym (same (row_in (slice_get rows n))) ∙ e) in
              let first : R (key_at m) (key_at n) ≡ Less = o.congr (key_at m) target (key_at n) (alike m f)
              ∙ (o.antisymm target (key_at n) ∙ ap ordering_reverse above) in
              not_both (ap is_lt (ap (λ r. ordering_then r (nat_cmp m n)) first)) (not_less m low f))

          pub first_found : p (row_in (slice_get rows n)) ≡ true
              → find p rows ≡ Some (row_in (slice_get rows n))
          first_found e = find_at p rows n (below n here) e (λ m low. before m low e)

          pub none_found : p (row_in (slice_get rows n)) ≡ false → find p rows ≡ None
          none_found e = find_none p rows (apart e)

        pub none_behind : slice_get order place ≡ None → find p rows ≡ None
        none_behind past = find_none p rows (λ m low. falls (p (row_in (slice_get rows m))) (λ f.
            let at = behind m low f in
            let long = past_end order place past in
            let far_off = at.1 in
            let after = at.3 in omega (arith, long, far_off, after)))
