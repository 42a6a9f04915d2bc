-- A valid plan is what the calls take for granted.
use Rattle.std.proofs.Common.{◌≡◌, ℕ, zero, suc, ◌+◌, ◌*◌, ◌<◌, ◌≤◌, Bool, true, false, cond, not, ◌&&◌, List, [], ◌∷◌}
use Rattle.std.proofs.Common.{length, refl, sym, ◌∙◌, ap, subst, inl, inr, arith}
use Rattle.std.specs.Prelude.{Option, None, Some, nat_le, nat_lt, slice_get, ◌==◌}
use Rattle.std.specs.List.{filter, list_all, range_with_len, sum_by}
use Rattle.std.proofs.lemmas.Bool.{and_from, and_parts, or_cases, eqb-true, eqb-false, leb-true, le-leb, lt-ltb}
use Rattle.std.proofs.lemmas.Bool.{ltb-true}
use Rattle.std.proofs.lemmas.List.{length-map}
use Rattle.std.proofs.lemmas.List.Filters.{length-filter_both}
use Rattle.vc_base.specs.Numbers.{numbers_below}
use Rattle.vc_plan.specs.declared.plans.Guard.{Guard}
use Rattle.vc_plan.specs.declared.plans.Object.{Object}
use Rattle.vc_plan.specs.declared.plans.Plan.{Plan}
use Rattle.vc_plan.specs.declared.plans.Slot.{Slot}
use Rattle.vc_plan.specs.declared.plans.TextSet.{TextSet}
use Rattle.vc_plan.specs.Classes.{are_guards_in_order, class_at, class_in, class_place, has_its_sets, has_sets}
use Rattle.vc_plan.specs.Classes.{is_not_behind, sets_at, value_place}
use Rattle.vc_plan.specs.Domains.{atom_count, count_of}
use Rattle.vc_plan.specs.Orders.{are_in_order, same_numbers}
use Rattle.vc_plan.specs.Ranges.{is_of, set_there}
use Rattle.vc_plan.specs.Valid.{IsValid}
use Rattle.vc_plan.proofs.PlanLaws.Counts.{sum_next}
use Rattle.vc_plan_values.proofs.TermLemmas.{PassesIf, all_get}
use Rattle.vc_show.specs.Fitting.{ValidPlansShow}
use Rattle.vc_show.specs.Places.{are_by_slot, slot_of_guard}

-- an order that follows from another is kept where that is
pub all_weaker : {X : Type 0} (p q : X → Bool) → ((x : X) → p x ≡ true → q x ≡ true) → (xs : List X)
    → list_all p xs ≡ true → list_all q xs ≡ true
all_weaker p q f [] e = refl
all_weaker p q f (x ∷ xs) e =
    let h : (p x ≡ true) × (list_all p xs ≡ true) = and_parts (p x) (list_all p xs) e in
    and_from (q x) (list_all q xs) (f x h.0) (all_weaker p q f xs h.1)

pub order_weaker : {X : Type 0} (p q : X → X → Bool) → ((x y : X) → p x y ≡ true → q x y ≡ true) → (xs : List X)
    → are_in_order p xs ≡ true → are_in_order q xs ≡ true
order_weaker p q f [] e = refl
order_weaker p q f (x ∷ xs) e =
    let h : (list_all (p x) xs ≡ true) × (are_in_order p xs ≡ true)
    = and_parts (list_all (p x) xs) (are_in_order p xs) e in
    and_from (list_all (q x) xs) (are_in_order q xs) (all_weaker (p x) (q x) (f x) xs h.0) (order_weaker p q f xs h.1)

-- a place that isn't behind another begins with no greater number
first_rises : (m n : ℕ) (ms ns : List ℕ) → is_not_behind (m ∷ ms) (n ∷ ns) ≡ true → nat_le m n ≡ true
first_rises m n ms ns e =
    elim (or_cases (nat_lt m n) ((m == n) && is_not_behind ms ns) e) [
      | inl low ↦ (let h = ltb-true m n low in le-leb m n (omega (arith, h)))
      | inr same ↦
          (let parts : ((m == n) ≡ true)
          × (is_not_behind ms ns ≡ true) = and_parts (m == n) (is_not_behind ms ns) same in
          let h = eqb-true m n parts.0 in
          le-leb m n (omega (arith, h)))
    ]

guards_rise : (plan : Plan) → IsValid plan → are_by_slot plan plan.guards ≡ true
guards_rise plan valid =
    order_weaker (are_guards_in_order plan) (λ a b. nat_le (slot_of_guard plan a) (slot_of_guard plan b))
    (λ a b e.
    first_rises (slot_of_guard plan a) (slot_of_guard plan b) (later_places a) (later_places b) e) plan.guards
    valid.guards_in_order
  where
    later_places : Guard → List ℕ
    later_places guard = class_place plan guard.at ∷ value_place plan guard.at guard.value ∷ []

-- there are no more variables than atoms
at_least : (f : ℕ → ℕ) (n : ℕ) → n ≤ sum_by (λ v. f v + 1) (numbers_below n)
at_least f zero = omega arith
at_least f (suc n) =
    let one_more : suc n ≡ n + 1 = omega arith in
    let before = at_least f n in
    let next = sum_next (λ v. f v + 1) n in
    subst (λ m. m ≤ sum_by (λ v. f v + 1) (numbers_below m)) (sym one_more) (omega (arith, before, next))

few_vars : (plan : Plan) → nat_le (atom_count plan) 40_000 ≡ true → length plan.vars ≤ 40_000
few_vars plan e =
    let limit = leb-true (atom_count plan) 40_000 e in
    let some = at_least (count_of plan) (length plan.vars) in
    omega (arith, limit, some)

-- what is left of a list is no longer, nor is what is left of that by another test longer than by that test alone
no_longer : {X : Type 0} (p : X → Bool) (xs : List X) → length (filter p xs) ≤ length xs
no_longer p [] = omega arith
no_longer p (x ∷ xs) = by (p x) (no_longer p xs)
  where
    by : (b : Bool) → length (filter p xs) ≤ length xs
        → length (cond b (x ∷ filter p xs) (filter p xs)) ≤ suc (length xs)
    by true h = omega (arith, h)
    by false h = omega (arith, h)

fewer : {X : Type 0} (p q : X → Bool) (xs : List X) → length (filter p (filter q xs)) ≤ length (filter p xs)
fewer p q [] = omega arith
fewer p q (x ∷ xs) = by (q x) (p x) refl (fewer p q xs)
  where
    by : (b c : Bool) → p x ≡ c → length (filter p (filter q xs)) ≤ length (filter p xs)
        → length (filter p (cond b (x ∷ filter q xs) (filter q xs))) ≤ length (cond c (x ∷ filter p xs) (filter p xs))
    by true true e h =
        let first : length (filter p (x ∷ filter q xs)) ≡ suc (length (filter p (filter q xs))) =
        ap (λ d. length (cond d (x ∷ filter p (filter q xs)) (filter p (filter q xs)))) e in
        omega (arith, first, h)
    by true false e h =
        let first : length (filter p (x ∷ filter q xs)) ≡ length (filter p (filter q xs)) =
        ap (λ d. length (cond d (x ∷ filter p (filter q xs)) (filter p (filter q xs)))) e in
        omega (arith, first, h)
    by false true e h = omega (arith, h)
    by false false e h = h

-- those of lower slots, without those of the last
module _ {X : Type 0} (slot : X → ℕ) where
  lower_left : (n : ℕ) (xs : List X) → list_all (λ x. nat_lt (slot x) (suc n)) xs ≡ true
      → list_all (λ x. nat_lt (slot x) n) (filter (λ x. not (slot x == n)) xs) ≡ true
  lower_left n [] e = refl
  lower_left n (x ∷ xs) e =
      let h : (nat_lt (slot x) (suc n) ≡ true) × (list_all (λ y. nat_lt (slot y) (suc n)) xs ≡ true) =
      and_parts (nat_lt (slot x) (suc n)) (list_all (λ y. nat_lt (slot y) (suc n)) xs) e in
      by (slot x == n) refl (ltb-true (slot x) (suc n) h.0) (lower_left n xs h.1)
    where
      by : (b : Bool) → (slot x == n) ≡ b → slot x < suc n
          → list_all (λ x. nat_lt (slot x) n) (filter (λ x. not (slot x == n)) xs) ≡ true
          → list_all (λ x. nat_lt (slot x) n)
          (cond (not (slot x == n)) (x ∷ filter (λ x. not (slot x == n)) xs) (filter (λ x. not (slot x == n)) xs))
          ≡ true
      by true s low h = ap
          (λ b. list_all (λ x. nat_lt (slot x) n)
          (cond (not b) (x ∷ filter (λ x. not (slot x == n)) xs) (filter (λ x. not (slot x == n)) xs))) s ∙ h
      by false s low h =
          let apart = eqb-false (slot x) n s in
          let below : slot x < n = omega (arith, low, apart) in
          ap (λ b. list_all (λ x. nat_lt (slot x) n)
          (cond (not b) (x ∷ filter (λ x. not (slot x == n)) xs) (filter (λ x. not (slot x == n)) xs))) s
          ∙ and_from (nat_lt (slot x) n) (list_all (λ y. nat_lt (slot y) n) (filter (λ y. not (slot y == n)) xs))
          (lt-ltb (slot x) n below) h

  -- so there are no more than the slots have together
  pub few_in_all : (most n : ℕ) (xs : List X) → list_all (λ x. nat_lt (slot x) n) xs ≡ true
      → ((i : ℕ) → i < n → length (filter (λ x. slot x == i) xs) ≤ most) → length xs ≤ n * most
  few_in_all most zero [] e each = omega arith
  few_in_all most zero (x ∷ xs) e each =
      let h : (nat_lt (slot x) 0 ≡ true) × (list_all (λ y. nat_lt (slot y) 0) xs ≡ true) =
      and_parts (nat_lt (slot x) 0) (list_all (λ y. nat_lt (slot y) 0) xs) e in
      let low = ltb-true (slot x) 0 h.0 in
      absurd (omega (arith, low))
  few_in_all most (suc n) xs e each =
      let others = λ (x : X). not (slot x == n) in
      let parts = length-filter_both (λ (x : X). slot x == n) others (λ x. refl) xs in
      let here = each n (omega arith) in
      let rest = few_in_all most n (filter others xs) (lower_left n xs e)
      (λ i low. let kept = fewer (λ (x : X). slot x == i) others xs in let all = each i (omega (arith, low)) in
      omega (arith, kept, all)) in
      omega (arith, parts, here, rest)

-- numbers that all of a range pass
pub each_below : (p : ℕ → Bool) (a n i : ℕ) → list_all p (range_with_len a n) ≡ true → i < n → p (a + i) ≡ true
each_below p a zero i e low = absurd (omega (arith, low))
each_below p a (suc n) zero e low =
    let h : (p a ≡ true) × (list_all p (range_with_len (a + 1) n) ≡ true)
    = and_parts (p a) (list_all p (range_with_len (a + 1) n)) e in
    let same : a ≡ a + 0 = omega arith in
    subst (λ m. p m ≡ true) same h.0
each_below p a (suc n) (suc i) e low =
    let h : (p a ≡ true) × (list_all p (range_with_len (a + 1) n) ≡ true)
    = and_parts (p a) (list_all p (range_with_len (a + 1) n)) e in
    let same : (a + 1) + i ≡ a + suc i = omega arith in
    subst (λ m. p m ≡ true) same (each_below p (a + 1) n i h.1 (omega (arith, low)))

same_length : (xs ys : List ℕ) → same_numbers xs ys ≡ true → length xs ≡ length ys
same_length [] [] e = refl
same_length [] (y ∷ ys) e = absurd (cc)
same_length (x ∷ xs) [] e = absurd (cc)
same_length (x ∷ xs) (y ∷ ys) e = ap suc (same_length xs ys (and_parts (x == y) (same_numbers xs ys) e).1)

module _ (plan : Plan) (valid : IsValid plan) where
  class_small : (o : Option Object) → PassesIf (λ object. nat_le (length object.characteristics) 500) o
      → length (class_in o) ≤ 500
  class_small None h = omega arith
  class_small (Some object) h = leb-true (length object.characteristics) 500 h

  slot_class_small : (o : Option Slot) → length (class_at plan o) ≤ 500
  slot_class_small None = omega arith
  slot_class_small (Some slot) =
      class_small (slice_get plan.objects slot.object)
      (all_get (λ (object : Object). nat_le (length object.characteristics) 500) plan.objects slot.object
      valid.class_limit)

  sets_small : (i : ℕ) → i < length plan.slots → length (filter (λ x. x.slot == i) plan.sets) ≤ 500
  sets_small i low =
      let same : 0 + i ≡ i = omega arith in
      let own : has_its_sets plan i ≡ true =
      subst (λ j. has_its_sets plan j ≡ true) same
      (each_below (has_its_sets plan) 0 (length plan.slots) i valid.class_sets low) in
      let class = class_at plan (slice_get plan.slots i) in
      let long = same_length (sets_at plan i) (filter (has_sets plan) class) own in
      let mapped : length (sets_at plan i) ≡ length (filter (λ (x : TextSet). x.slot == i) plan.sets) =
      length-map (filter (λ (x : TextSet). x.slot == i) plan.sets) (λ (x : TextSet). x.characteristic) in
      let left = no_longer (has_sets plan) class in
      let few = slot_class_small (slice_get plan.slots i) in
      omega (arith, long, mapped, left, few)

  slots_there : list_all (λ x. nat_lt x.slot (length plan.slots)) plan.sets ≡ true
  slots_there =
      all_weaker (set_there plan) (λ x. nat_lt x.slot (length plan.slots))
      (λ x e. (and_parts (is_of plan.slots x.slot)
      (is_of plan.characteristics x.characteristic && is_of plan.domains x.domain) e).0)
      plan.sets valid.sets_there

  few_sets : length plan.sets ≤ 20_000
  few_sets =
      let all = few_in_all (λ (x : TextSet). x.slot) 500 (length plan.slots) plan.sets slots_there sets_small in
      let slots = leb-true (length plan.slots) 40 valid.slot_limit in
      omega (arith, all, slots)

pub valid_plans_show : ValidPlansShow
valid_plans_show plan valid =
    let vars = few_vars plan valid.atom_limit in
    let sets = few_sets plan valid in record {
      terms = record {
        domains_there = valid.domains_there;
        conditions_there = valid.conditions_there;
        terms_there = valid.terms_there;
        conditions_small = valid.conditions_small;
        terms_small = valid.terms_small;
      };
      guards = guards_rise plan valid;
      vars = omega (arith, vars);
      sets = omega (arith, sets);
      vars_by_slot = valid.vars_by_slot;
      sets_by_slot = valid.sets_by_slot;
    }
