-- Which of a slot's variables, and which of a variable's grains, pass a test.
use Rattle.std.proofs.Common.{◌≡◌, ℕ, zero, suc, ◌-◌, ◌<◌, ◌≤◌, ◌⊎◌, Bool, true, false, ◌&&◌, ◌||◌, List, [], ◌∷◌}
use Rattle.std.proofs.Common.{length, get_or, refl, sym, ◌∙◌, ap, subst, inl, inr, arith}
use Rattle.std.specs.Prelude.{Some, nat_eq, nat_le, nat_lt, option_to_list, slice_get, ◌==◌}
use Rattle.std.specs.List.{list_all, list_any}
use Rattle.std.specs.List.Sorted.{IsPartitionedBy, IsPartitionPoint}
use Rattle.std.proofs.lemmas.Bool.{and_parts, cases_lt, leb-true, lt-ltb, ltb-false, ltb-true}
use Rattle.std.proofs.lemmas.Option.{get_or_from_slice_get, slice_get-get_or, slice_get_within}
use Rattle.vc_base.proofs.ListLaws.{number_exact, number_itself, has_range, range_has}
use Rattle.vc_base.proofs.SetLaws.{both, none_at, none_passes, told}
use Rattle.vc_value.proofs.GrainLemmas.{all_at}
use Rattle.vc_plan.specs.declared.atoms.Atom.TheVariants.{Here}
use Rattle.vc_plan.specs.declared.plans.Plan.{Plan}
use Rattle.vc_plan.specs.declared.plans.Var.{Var}
use Rattle.vc_plan.specs.Domains.{numbers_below}
use Rattle.vc_plan.specs.Seen.{slot_in}
use Rattle.vc_plan_blame.specs.Blame.{uses_up}
use Rattle.vc_net_log.specs.Coming.{are_by_slot, has_full, is_full}

pub none_below : (p : ℕ → Bool) (n : ℕ) → ((v : ℕ) → v < n → p v ≡ false) → list_any p (numbers_below n) ≡ false
none_below p n none =
    none_passes nat_eq number_exact number_itself p (numbers_below n)
    (λ v h. let high = (has_range 0 n v h).1 in none v (omega (arith, high)))

pub some_below : (p : ℕ → Bool) (n v : ℕ) → v < n → p v ≡ true → list_any p (numbers_below n) ≡ true
some_below p n v low e =
    elim (told (list_any p (numbers_below n))) [
      | inl some ↦ some
      | inr none ↦
          absurd (both e (none_at nat_eq number_exact number_itself p (numbers_below n) v none
          (range_has 0 n v (omega arith) (omega (arith, low)))))
    ]

-- variables by their slots
slots_rise : (vars : List Var) (i j : ℕ) (d : Var) → are_by_slot vars ≡ true → i ≤ j → j < length vars
    → (get_or vars i d).slot ≤ (get_or vars j d).slot
slots_rise [] i j d e h low = absurd (omega (arith, low))
slots_rise (x ∷ vars) zero zero d e h low = omega arith
slots_rise (x ∷ vars) (suc i) zero d e h low = absurd (omega (arith, h))
slots_rise (x ∷ vars) zero (suc j) d e h low =
    let first = (and_parts (list_all (λ (y : Var). nat_le x.slot y.slot) vars) (are_by_slot vars) e).0 in
    leb-true x.slot (get_or vars j d).slot
    (all_at (λ (y : Var). nat_le x.slot y.slot) vars j d first (omega (arith, low)))
slots_rise (x ∷ vars) (suc i) (suc j) d e h low =
    slots_rise vars i j d (and_parts (list_all (λ (y : Var). nat_le x.slot y.slot) vars) (are_by_slot vars) e).1
    (omega (arith, h)) (omega (arith, low))

pub slots_parted : (vars : List Var) (i : ℕ) → are_by_slot vars ≡ true
    → IsPartitionedBy (λ (x : Var). nat_lt x.slot i) vars
slots_parted vars i e k j d le inside below =
    let rise = slots_rise vars k j d e le inside in
    let low = ltb-true (get_or vars j d).slot i below in
    lt-ltb (get_or vars k d).slot i (omega (arith, rise, low))

module _ (vars : List Var) (i n : ℕ)
    (point : IsPartitionPoint (λ (x : Var). nat_lt x.slot i ≡ true) (λ (x : Var). nat_lt x.slot i ≡ false) vars n) where
  pub slot_before : (v : ℕ) (x : Var) → slice_get vars v ≡ Some x → v < n → x.slot < i
  slot_before v x h low =
      ltb-true x.slot i (subst (λ (y : Var). nat_lt y.slot i ≡ true) (get_or_from_slice_get vars v x x h)
      (point.0 v x (omega arith) low))

  pub slot_after : (v : ℕ) (x : Var) → slice_get vars v ≡ Some x → n ≤ v → i ≤ x.slot
  slot_after v x h past =
      let inside = slice_get_within vars v x h in
      ltb-false x.slot i (subst (λ (y : Var). nat_lt y.slot i ≡ false) (get_or_from_slice_get vars v x x h)
      (point.1 v x past inside))

-- the variables of a slot
module _ (plan : Plan) (outs : List ℕ) (i : ℕ) where
  abbrev pub fills : ℕ → Bool
  fills v = uses_up plan v (Here i) && is_full plan outs v

  of_slot : (v : ℕ) (x : Var) → slice_get plan.vars v ≡ Some x → uses_up plan v (Here i) ≡ (x.slot == i)
  of_slot v x h = ap (λ o. list_any (λ j. j == i) (option_to_list (slot_in o))) h ∙ one (x.slot == i)
    where
      one : (b : Bool) → (b || false) ≡ b
      one true = refl
      one false = refl

  pub other_slot : (v : ℕ) (x : Var) → slice_get plan.vars v ≡ Some x → (x.slot ≡ i → ⊥) → fills v ≡ false
  other_slot v x h apart =
      ap (λ b. b && is_full plan outs v) (of_slot v x h ∙ unequal (told (x.slot == i)))
    where
      unequal : ((x.slot == i) ≡ true) ⊎ ((x.slot == i) ≡ false) → (x.slot == i) ≡ false
      unequal (inl same) = absurd (apart (number_exact x.slot i same))
      unequal (inr other) = other

  pub its_slot : (v : ℕ) (x : Var) → slice_get plan.vars v ≡ Some x → x.slot ≡ i → fills v ≡ is_full plan outs v
  its_slot v x h same =
      ap (λ b. b && is_full plan outs v) (of_slot v x h ∙ (ap (λ k. k == i) same ∙ number_itself i))

  pub some_full : (v : ℕ) (x : Var) → slice_get plan.vars v ≡ Some x → x.slot ≡ i → is_full plan outs v ≡ true
      → has_full plan outs i ≡ true
  some_full v x h same full =
      some_below fills (length plan.vars) v (slice_get_within plan.vars v x h) (its_slot v x h same ∙ full)

  -- where none is full before a number, at which the slot's variables end, none is
  ended : (n v : ℕ) (x y : Var) → are_by_slot plan.vars ≡ true → slice_get plan.vars n ≡ Some x → i < x.slot → n ≤ v
      → slice_get plan.vars v ≡ Some y → i < y.slot
  ended n v x y e h past later k =
      let inside = slice_get_within plan.vars v y k in
      let rise = slots_rise plan.vars n v x e later inside in
      let first : (get_or plan.vars n x).slot ≡ x.slot
      = ap (λ (z : Var). z.slot) (get_or_from_slice_get plan.vars n x x h) in
      let last : (get_or plan.vars v x).slot ≡ y.slot
      = ap (λ (z : Var). z.slot) (get_or_from_slice_get plan.vars v y x k) in
      omega (arith, rise, first, last, past)

  pub none_full : (n : ℕ) (x : Var) → are_by_slot plan.vars ≡ true → ((v : ℕ) → v < n → fills v ≡ false)
      → slice_get plan.vars n ≡ Some x → i < x.slot → has_full plan outs i ≡ false
  none_full n x e none h past =
      none_below fills (length plan.vars) (λ v low. elim (cases_lt v n) [
        | inl before ↦ none v before
        | inr later ↦
            let there : slice_get plan.vars v ≡ Some (get_or plan.vars v x) = slice_get-get_or plan.vars v x low in
            let high : i < (get_or plan.vars v x).slot = ended n v x (get_or plan.vars v x) e h past later there in
            other_slot v (get_or plan.vars v x) there (λ same. omega (arith, same, high))
      ])

  pub none_at_all : (n : ℕ) → ((v : ℕ) → v < n → fills v ≡ false) → length plan.vars ≤ n → has_full plan outs i ≡ false
  none_at_all n none all = none_below fills (length plan.vars) (λ v low. none v (omega (arith, low, all)))

-- the same of the slice that is walked
module _ (plan : Plan) (outs : List ℕ) (i : ℕ) (vars : List Var) (is : vars ≡ plan.vars)
    (ordered : are_by_slot plan.vars ≡ true)
    (n : ℕ) (d : Var) where
  read : n < length vars → slice_get plan.vars n ≡ Some (get_or vars n d)
  read low = ap (λ xs. slice_get xs n) (sym is) ∙ slice_get-get_or vars n d low

  pub walked_full : n < length vars → (get_or vars n d).slot ≡ i → is_full plan outs n ≡ true
      → true ≡ has_full plan outs i
  walked_full low same full = sym (some_full plan outs i n (get_or vars n d) (read low) same full)

  pub walked_past : n < length vars → ((v : ℕ) → v < n → fills plan outs i v ≡ false)
      → ((v : ℕ) (x : Var) → slice_get plan.vars v ≡ Some x → n ≤ v → i ≤ x.slot) → ((get_or vars n d).slot ≡ i → ⊥)
      → false ≡ has_full plan outs i
  walked_past low none from apart =
      let least = from n (get_or vars n d) (read low) (omega arith) in
      let past : i < (get_or vars n d).slot = strictly (cases_lt i (get_or vars n d).slot) least in
      sym (none_full plan outs i n (get_or vars n d) ordered none (read low) past)
    where
      strictly : (i < (get_or vars n d).slot) ⊎ ((get_or vars n d).slot ≤ i) → i ≤ (get_or vars n d).slot
          → i < (get_or vars n d).slot
      strictly (inl h) least = h
      strictly (inr h) least = absurd (apart (omega (arith, h, least)))

  pub walked_all : ((v : ℕ) → v < n → fills plan outs i v ≡ false) → length vars ≤ n → false ≡ has_full plan outs i
  walked_all none all =
      let long : length vars ≡ length plan.vars = ap length is in
      sym (none_at_all plan outs i n none (omega (arith, long, all)))
