-- What a characteristic of a slot's class is called by: the number of its variable or its set.
use Rattle.std.proofs.Common.{◌≡◌, ℕ, zero, suc, ◌+◌, Bool, true, false, cond, not, ◌&&◌, ◌||◌, List, [], ◌∷◌, length}
use Rattle.std.proofs.Common.{map}
use Rattle.std.proofs.Common.{Some, refl, sym, ap, ◌∙◌, arith, if◌then◌else◌}
use Rattle.std.specs.Prelude.{◌==◌, find, slice_get}
use Rattle.std.specs.List.{filter, list_any, position_or_len}
use Rattle.std.proofs.lemmas.Bool.{and_from, and_parts, eqb-true, eq-eqb, lt-ltb, not_from_false, or_left, or_right}
use Rattle.std.proofs.lemmas.List.Folds.{find_at, list_any-append}
use Rattle.std.proofs.lemmas.Option.{slice_get_within}
use Rattle.vc_model_parts.specs.declared.parts.Model.{Model}
use Rattle.vc_plan.specs.BillRanges.{named_there}
use Rattle.vc_plan.specs.Classes.{characteristic_at, characteristic_of_set, characteristic_of_var}
use Rattle.vc_plan.specs.Seen.{slot_in}
use Rattle.vc_plan.specs.Showing.{slot_of_named, slot_of_set}
use Rattle.vc_plan.specs.declared.plans.Named.{Named}
use Rattle.vc_plan.specs.declared.plans.Named.TheVariants as named
use Rattle.vc_plan.specs.declared.plans.Plan.{Plan}
use Rattle.vc_plan.specs.declared.plans.Slot.{Slot}
use Rattle.vc_plan.specs.declared.plans.TextSet.{TextSet}
use Rattle.vc_plan.specs.declared.plans.Var.{Var}
use Rattle.vc_table.specs.declared.table.VariantTable.{VariantTable}
use Rattle.vc_types.specs.Settings.{is_multiple}
use Rattle.vc_compile_plan.specs.Layouts.{layout_of}
use Rattle.vc_compile_plan.specs.PlanOf.{IsPlanOf}
use Rattle.vc_compile_plan.specs.Sites.{named_at}
use Rattle.vc_compile_plan.specs.Slots.{slots_of}
use Rattle.vc_compile_plan.specs.Variables.{by_slot, members_of, set_at, set_number, sets_at, sets_of, var_at}
use Rattle.vc_compile_plan.specs.Variables.{var_number, vars_at, vars_of}
use Rattle.vc_compile_valid.proofs.EachLaws.{Each, each_more}

-- the first that passes, where one does
one_found : {X : Type 0} (p : X → Bool) (xs : List X) → list_any p xs ≡ true
    → (x : X) × (find p xs ≡ Some x) × (p x ≡ true)
one_found p [] h = absurd (cc)
one_found {X = X} p (x ∷ xs) h = by (p x) refl h (λ e. one_found p xs e)
  where
    by : (b : Bool) → p x ≡ b → (b || list_any p xs) ≡ true
        → (list_any p xs ≡ true → (y : X) × (find p xs ≡ Some y) × (p y ≡ true))
        → (y : X) × (cond b (Some x) (find p xs) ≡ Some y) × (p y ≡ true)
    by true e h later = (x, refl, e)
    by false e h later = later h

pub first_found : {X : Type 0} (p : X → Bool) (xs : List X) → list_any p xs ≡ true
    → (x : X) × (slice_get xs (position_or_len p xs) ≡ Some x) × (p x ≡ true)
first_found p xs h = let found = one_found p xs h in (found.0, sym (find_at p xs) ∙ found.1, found.2)

-- each of a list is one of it, by a test that each passes against itself
pub each_among : {X : Type 0} (same : X → X → Bool) → ((x : X) → same x x ≡ true) → (xs : List X)
    → Each (λ x. list_any (same x) xs ≡ true) xs
each_among same itself [] = tt
each_among same itself (x ∷ xs) = (
  or_left (same x x) (list_any (same x) xs) (itself x),
  each_more (λ y. list_any (same y) xs ≡ true) (λ y. list_any (same y) (x ∷ xs) ≡ true)
      (λ y h. or_right (same y x) (list_any (same y) xs) h) xs (each_among same itself xs),
)

-- what stands at one slot stands among all
pub any_by_slot : {X : Type 0} (p : X → Bool) (has : ℕ → Slot → List X) (i : ℕ) (slots : List Slot) (k : ℕ)
    (slot : Slot)
    → slice_get slots k ≡ Some slot → list_any p (has (i + k) slot) ≡ true → list_any p (by_slot has i slots) ≡ true
any_by_slot p has i [] k slot e h = absurd (cc)
any_by_slot p has i (s ∷ slots) zero slot e h =
    let same : s ≡ slot = cc in
    list_any-append p (has i s) (by_slot has (suc i) slots)
    ∙ or_left (list_any p (has i s)) (list_any p (by_slot has (suc i) slots))
    (ap (λ x. list_any p (has i x)) same ∙ ap (λ n. list_any p (has n slot)) (no_more i) ∙ h)
  where
    no_more : (n : ℕ) → n ≡ n + 0
    no_more n = omega arith
any_by_slot p has i (s ∷ slots) (suc k) slot e h =
    list_any-append p (has i s) (by_slot has (suc i) slots)
    ∙ or_right (list_any p (has i s)) (list_any p (by_slot has (suc i) slots))
    (any_by_slot p has (suc i) slots k slot e (ap (λ n. list_any p (has n slot)) (one_more i k) ∙ h))
  where
    one_more : (n k : ℕ) → suc n + k ≡ n + suc k
    one_more n k = omega arith

pub any_made : {X : Type 0} (p : X → Bool) (f : ℕ → X) (test : ℕ → Bool) (c : ℕ) → p (f c) ≡ true → test c ≡ true
    → (ms : List ℕ) → list_any (λ d. c == d) ms ≡ true → list_any p (map f (filter test ms)) ≡ true
any_made p f test c good passes [] h = absurd (cc)
any_made p f test c good passes (m ∷ ms) h =
    by (c == m) refl h (test m) refl (λ e. any_made p f test c good passes ms e)
  where
    by : (same : Bool) → (c == m) ≡ same → (same || list_any (λ d. c == d) ms) ≡ true → (b : Bool) → test m ≡ b
        → (list_any (λ d. c == d) ms ≡ true → list_any p (map f (filter test ms)) ≡ true)
        → list_any p (map f (cond b (m ∷ filter test ms) (filter test ms))) ≡ true
    by true is h true e later =
        or_left (p (f m)) (list_any p (map f (filter test ms))) (ap (λ d. p (f d)) (sym (eqb-true c m is)) ∙ good)
    by true is h false e later =
        absurd (let both : true ≡ false = sym passes ∙ ap test (eqb-true c m is) ∙ e in cc)
    by false is h true e later = or_right (p (f m)) (list_any p (map f (filter test ms))) (later h)
    by false is h false e later = later h

-- a name that the plan has, of this characteristic
pub record IsNamed (plan : Plan) (c : ℕ) (n : Named) : Type 0 where
  pub is_there : named_there plan n ≡ true
  pub characteristic : characteristic_at plan n ≡ Some c

-- and of a slot
pub record IsNamedAt (plan : Plan) (i c : ℕ) (n : Named) : Type 0 where
  pub named : IsNamed plan c n
  pub slot : slot_of_named plan n ≡ Some i

-- the variable, and the set, of a characteristic of a slot's class
pub var_found : (model : Model) (k : ℕ) (slot : Slot) → slice_get (slots_of model) k ≡ Some slot → (c : ℕ)
    → list_any (λ d. c == d) (members_of model slot.object) ≡ true → is_multiple model c ≡ false
    → (x : Var) × (slice_get (vars_of model (slots_of model)) (var_number (vars_of model (slots_of model)) (0 + k) c)
    ≡ Some x)
    × (x.slot ≡ 0 + k) × (x.characteristic ≡ c)
var_found model k slot at c member single =
    let test : Var → Bool = λ x. (x.slot == (0 + k)) && (x.characteristic == c) in
    let found = first_found test (vars_of model (slots_of model))
    (any_by_slot test (vars_at model) 0 (slots_of model) k slot at
    (any_made test (var_at model (0 + k)) (λ d. not (is_multiple model d)) c
    (and_from (0 + k == 0 + k) (c == c) (eq-eqb (0 + k) (0 + k) refl) (eq-eqb c c refl))
    (not_from_false (is_multiple model c) single)
    (members_of model slot.object) member)) in
    let parts = and_parts (found.0.slot == (0 + k)) (found.0.characteristic == c) found.2 in
    (found.0, found.1, eqb-true found.0.slot (0 + k) parts.0, eqb-true found.0.characteristic c parts.1)

pub set_found : (model : Model) (k : ℕ) (slot : Slot) → slice_get (slots_of model) k ≡ Some slot → (c : ℕ)
    → list_any (λ d. c == d) (members_of model slot.object) ≡ true → is_multiple model c ≡ true
    → (x : TextSet) × (slice_get (sets_of model (slots_of model))
    (set_number (sets_of model (slots_of model)) (0 + k) c) ≡ Some x)
    × (x.slot ≡ 0 + k) × (x.characteristic ≡ c)
set_found model k slot at c member multiple =
    let test : TextSet → Bool = λ x. (x.slot == (0 + k)) && (x.characteristic == c) in
    let found = first_found test (sets_of model (slots_of model))
    (any_by_slot test (sets_at model) 0 (slots_of model) k slot at
    (any_made test (set_at (0 + k)) (is_multiple model) c
    (and_from (0 + k == 0 + k) (c == c) (eq-eqb (0 + k) (0 + k) refl) (eq-eqb c c refl)) multiple
    (members_of model slot.object) member)) in
    let parts = and_parts (found.0.slot == (0 + k)) (found.0.characteristic == c) found.2 in
    (found.0, found.1, eqb-true found.0.slot (0 + k) parts.0, eqb-true found.0.characteristic c parts.1)

pub named_at_slot : (model : Model) (tables : List VariantTable) (plan : Plan) → IsPlanOf model tables plan
    → (k : ℕ) (slot : Slot)
    → slice_get (slots_of model) k ≡ Some slot → (c : ℕ) → list_any (λ d. c == d) (members_of model slot.object) ≡ true
    → IsNamedAt plan (0 + k) c (named_at (layout_of model) (0 + k) c)
named_at_slot model tables plan is k slot at c member = by (is_multiple model c) refl
  where
    var_is : is_multiple model c ≡ false
        → IsNamedAt plan (0 + k) c (named.Var (var_number (vars_of model (slots_of model)) (0 + k) c))
    var_is single =
        let found = var_found model k slot at c member single in
        let n = var_number (vars_of model (slots_of model)) (0 + k) c in
        let here : slice_get plan.vars n ≡ Some found.0 = ap (λ xs. slice_get xs n) is.vars ∙ found.1 in
        record {
          named = record {
            is_there = lt-ltb n (length plan.vars) (slice_get_within plan.vars n found.0 here);
            characteristic = ap characteristic_of_var here ∙ ap Some found.3;
          };
          slot = ap slot_in here ∙ ap Some found.2;
        }

    set_is : is_multiple model c ≡ true
        → IsNamedAt plan (0 + k) c (named.Set (set_number (sets_of model (slots_of model)) (0 + k) c))
    set_is multiple =
        let found = set_found model k slot at c member multiple in
        let n = set_number (sets_of model (slots_of model)) (0 + k) c in
        let here : slice_get plan.sets n ≡ Some found.0 = ap (λ xs. slice_get xs n) is.sets ∙ found.1 in
        record {
          named = record {
            is_there = lt-ltb n (length plan.sets) (slice_get_within plan.sets n found.0 here);
            characteristic = ap characteristic_of_set here ∙ ap Some found.3;
          };
          slot = ap slot_of_set here ∙ ap Some found.2;
        }

    by : (b : Bool) → is_multiple model c ≡ b
        → IsNamedAt plan (0 + k) c (if b then named.Set (set_number (sets_of model (slots_of model)) (0 + k) c)
        else named.Var (var_number (vars_of model (slots_of model)) (0 + k) c))
    by true e = set_is e
    by false e = var_is e

pub named_found : (model : Model) (tables : List VariantTable) (plan : Plan) → IsPlanOf model tables plan
    → (k : ℕ) (slot : Slot)
    → slice_get (slots_of model) k ≡ Some slot → (c : ℕ) → list_any (λ d. c == d) (members_of model slot.object) ≡ true
    → IsNamed plan c (named_at (layout_of model) (0 + k) c)
named_found model tables plan is k slot at c member = (named_at_slot model tables plan is k slot at c member).named
