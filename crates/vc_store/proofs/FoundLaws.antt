-- In a valid plan each variable and set is found by its slot and its characteristic's name.
use Rattle.std.proofs.Common.{◌≡◌, ℕ, zero, suc, ◌+◌, ◌-◌, ◌<◌, Bool, true, false, cond, not, ◌&&◌, ◌||◌, List, [], ◌∷◌}
use Rattle.std.proofs.Common.{length, map, refl, sym, ap, ap₂, ◌∙◌, subst, arith, inl, inr, ◌⊎◌}
use Rattle.std.specs.Prelude.{◌==◌, Option, None, Some, slice_get, nat_lt}
use Rattle.std.specs.Char.{to_ascii_lowercase, to_ascii_uppercase}
use Rattle.std.specs.List.{filter, find, list_all, list_any, range_with_len}
use Rattle.std.proofs.lemmas.Bool.{and_from, and_parts, cases_lt, eq-eqb, eqb-true, lt-ltb, le-ltb, or_cases}
use Rattle.std.proofs.lemmas.Slice.Eq.{bytes_eq-Decides}
use Rattle.vc_value.specs.Names.{is_name}
use Rattle.vc_value.specs.Words.{same_bytes, same_ignoring_case}
use Rattle.vc_plan.specs.declared.plans.Characteristic.{Characteristic}
use Rattle.vc_plan.specs.declared.plans.Named.TheVariants.{Set, Var}
use Rattle.vc_plan.specs.declared.plans.Object.{Object}
use Rattle.vc_plan.specs.declared.plans.Plan.{Plan}
use Rattle.vc_plan.specs.declared.plans.Slot.{Slot}
use Rattle.vc_plan.specs.declared.plans.TextSet.{TextSet}
use Rattle.vc_plan.specs.declared.plans.Var.{Var as Variable}
use Rattle.vc_plan.specs.Classes.{class_at, class_in, has_its_sets, has_its_vars, has_sets, sets_at, vars_at}
use Rattle.vc_plan.specs.Orders.{are_apart, same_numbers}
use Rattle.vc_plan.specs.Parts.{is_var_of, var_of}
use Rattle.vc_plan.specs.Spelling.{is_upper, is_upper_name}
use Rattle.vc_plan.specs.Valid.{IsValid}
use Rattle.vc_show.proofs.FittingLaws.{each_below}
use Rattle.vc_show_rows.specs.Rows.{class_of, is_set_of, named_by, named_of, set_named, set_of}
use Rattle.vc_desk_names.specs.Meant.{characteristic_named, is_called}
use Rattle.vc_desk_names.proofs.NameLaws.{alike, all_get, any_get, only_named}

-- a number of a range that alone passes is found, and none where none does
find_only : (p : ℕ → Bool) (a n k : ℕ) → p (a + k) ≡ true → k < n → ((w : ℕ) → p w ≡ true → w ≡ a + k)
    → find p (range_with_len a n) ≡ Some (a + k)
find_only p a zero k at low only = absurd (omega (arith, low))
find_only p a (suc n) k at low only = by (p a) refl (λ m e. find_only p (a + 1) n m e)
  where
    by : (b : Bool) → p a ≡ b
        → ((m : ℕ) → p ((a + 1) + m) ≡ true → m < n → ((w : ℕ) → p w ≡ true → w ≡ (a + 1) + m)
        → find p (range_with_len (a + 1) n) ≡ Some ((a + 1) + m))
        → cond b (Some a) (find p (range_with_len (a + 1) n)) ≡ Some (a + k)
    by true h later = ap Some (only a h)
    by false h later = at_next k refl
      where
        at_next : (m : ℕ) → k ≡ m → find p (range_with_len (a + 1) n) ≡ Some (a + k)
        at_next zero e =
            let here : a + k ≡ a = omega (arith, e) in
            let wrong : true ≡ false = sym at ∙ ap p here ∙ h in absurd (cc)
        at_next (suc m) e =
            let next : (a + 1) + m ≡ a + k = omega (arith, e) in
            later m (ap p next ∙ at) (omega (arith, low, e)) (λ w passes. only w passes ∙ sym next) ∙ ap Some next

find_none : (p : ℕ → Bool) (xs : List ℕ) → ((w : ℕ) → p w ≡ false) → find p xs ≡ None
find_none p [] none = refl
find_none p (x ∷ xs) none = ap (λ b. cond b (Some x) (find p xs)) (none x) ∙ find_none p xs none

pub find_listed : (p : ℕ → Bool) (xs : List ℕ) (c : ℕ) → list_any (λ d. d == c) xs ≡ true → p c ≡ true
    → ((d : ℕ) → p d ≡ true → d ≡ c) → find p xs ≡ Some c
find_listed p [] c member at only = absurd (cc)
find_listed p (x ∷ xs) c member at only =
    by (p x) refl (or_cases (x == c) (list_any (λ d. d == c) xs) member) (λ later. find_listed p xs c later at only)
  where
    by : (b : Bool) → p x ≡ b → (x == c ≡ true) ⊎ (list_any (λ d. d == c) xs ≡ true)
        → (list_any (λ d. d == c) xs ≡ true → find p xs ≡ Some c) → cond b (Some x) (find p xs) ≡ Some c
    by true h which later = ap Some (only x h)
    by false h (inl here) later =
        let wrong : true ≡ false = sym at ∙ ap p (sym (eqb-true x c here)) ∙ h in absurd (cc)
    by false h (inr more) later = later more

-- the elements at a slot, of which no two have one characteristic
module _ {X : Type 0} (slot characteristic : X → ℕ) where
  abbrev is_at : ℕ → ℕ → Option X → Bool
  is_at i c None = false
  is_at i c (Some x) = (slot x == i) && (characteristic x == c)

  abbrev at_slot : ℕ → List X → List ℕ
  at_slot i xs = map characteristic (filter (λ y. slot y == i) xs)

  kept : (i : ℕ) (x : X) (xs : List X) (b : Bool) → (slot x == i) ≡ b
      → at_slot i (x ∷ xs) ≡ cond b (characteristic x ∷ at_slot i xs) (at_slot i xs)
  kept i x xs true e =
      ap (λ b. map characteristic (cond b (x ∷ filter (λ y. slot y == i) xs) (filter (λ y. slot y == i) xs))) e
  kept i x xs false e =
      ap (λ b. map characteristic (cond b (x ∷ filter (λ y. slot y == i) xs) (filter (λ y. slot y == i) xs))) e

  -- one that stands there has its characteristic among them
  stands_at : (i c : ℕ) (xs : List X) (k : ℕ) → is_at i c (slice_get xs k) ≡ true
      → list_any (λ d. d == c) (at_slot i xs) ≡ true
  stands_at i c [] k e = absurd (cc)
  stands_at i c (x ∷ xs) zero e =
      let parts = and_parts (slot x == i) (characteristic x == c) e in
      ap (list_any (λ d. d == c)) (kept i x xs true parts.0)
      ∙ ap (λ b. b || list_any (λ d. d == c) (at_slot i xs)) parts.1
  stands_at i c (x ∷ xs) (suc k) e = by (slot x == i) refl (stands_at i c xs k e)
    where
      skip : (b : Bool) → list_any (λ d. d == c) (at_slot i xs) ≡ true
          → (b || list_any (λ d. d == c) (at_slot i xs)) ≡ true
      skip true h = refl
      skip false h = h

      by : (b : Bool) → (slot x == i) ≡ b → list_any (λ d. d == c) (at_slot i xs) ≡ true
          → list_any (λ d. d == c) (at_slot i (x ∷ xs)) ≡ true
      by true s later = ap (list_any (λ d. d == c)) (kept i x xs true s) ∙ skip (characteristic x == c) later
      by false s later = ap (list_any (λ d. d == c)) (kept i x xs false s) ∙ later

  turned : (c d : ℕ) (ns : List ℕ) → (c ≡ d) → list_any (λ n. n == d) ns ≡ true → list_any (λ n. c == n) ns ≡ true
  turned c d [] same e = absurd (cc)
  turned c d (n ∷ ns) same e = elim (or_cases (n == d) (list_any (λ n. n == d) ns) e) [
    | inl here ↦ ap (λ b. b || list_any (λ n. c == n) ns) (eq-eqb c n (same ∙ sym (eqb-true n d here)))
    | inr more ↦ skip (c == n) (turned c d ns same more)
  ]
    where
      skip : (b : Bool) → list_any (λ n. c == n) ns ≡ true → (b || list_any (λ n. c == n) ns) ≡ true
      skip true h = refl
      skip false h = h

  -- two of one characteristic can't both stand there
  never_both : (i c : ℕ) (x : X) (xs : List X) → are_apart (λ m n. m == n) (at_slot i (x ∷ xs)) ≡ true → (k : ℕ)
      → is_at i c (Some x) ≡ true → is_at i c (slice_get xs k) ≡ true → ⊥
  never_both i c x xs apart k e f =
      let parts = and_parts (slot x == i) (characteristic x == c) e in
      let rest = at_slot i xs in
      let both = and_parts (not (list_any (λ n. characteristic x == n) rest)) (are_apart (λ m n. m == n) rest)
      (sym (ap (are_apart (λ m n. m == n)) (kept i x xs true parts.0)) ∙ apart) in
      let found = turned (characteristic x) c rest (eqb-true (characteristic x) c parts.1) (stands_at i c xs k f) in
      let wrong : false ≡ true = sym (ap not found) ∙ both.0 in cc

  only_at : (i c : ℕ) (xs : List X) → are_apart (λ m n. m == n) (at_slot i xs) ≡ true → (w k : ℕ)
      → is_at i c (slice_get xs w) ≡ true → is_at i c (slice_get xs k) ≡ true → w ≡ k
  only_at i c [] apart w k e f = absurd (cc)
  only_at i c (x ∷ xs) apart zero zero e f = refl
  only_at i c (x ∷ xs) apart zero (suc k) e f = absurd (never_both i c x xs apart k e f)
  only_at i c (x ∷ xs) apart (suc w) zero e f = absurd (never_both i c x xs apart w f e)
  only_at i c (x ∷ xs) apart (suc w) (suc k) e f =
      ap suc (only_at i c xs (by (slot x == i) refl) w k e f)
    where
      by : (b : Bool) → (slot x == i) ≡ b → are_apart (λ m n. m == n) (at_slot i xs) ≡ true
      by true s =
          (and_parts (not (list_any (λ n. characteristic x == n) (at_slot i xs)))
          (are_apart (λ m n. m == n) (at_slot i xs))
          (sym (ap (are_apart (λ m n. m == n)) (kept i x xs true s)) ∙ apart)).1
      by false s = sym (ap (are_apart (λ m n. m == n)) (kept i x xs false s)) ∙ apart

pub name_found : (plan : Plan) → IsValid plan → (i c : ℕ) (x : Characteristic)
    → slice_get plan.characteristics c ≡ Some x → list_any (λ d. d == c) (class_of plan i) ≡ true
    → characteristic_named plan i x.name ≡ Some c
name_found plan valid i c x e member =
    find_listed (λ d. is_called x.name (slice_get plan.characteristics d)) (class_of plan i) c member
    (ap (is_called x.name) e ∙ alike x.name x.name refl) (only_named plan valid c x e)

-- a slot's class has each characteristic once, and its variables and sets are of them
pub class_apart : (plan : Plan) → IsValid plan → (i : ℕ) → are_apart (λ m n. m == n) (class_of plan i) ≡ true
class_apart plan valid i = by (slice_get plan.slots i)
  where
    at : (o : Option Object) → ((x : Object) → o ≡ Some x → are_apart (λ m n. m == n) x.characteristics ≡ true)
        → are_apart (λ m n. m == n) (class_in o) ≡ true
    at None h = refl
    at (Some x) h = h x refl

    by : (o : Option Slot) → are_apart (λ m n. m == n) (class_at plan o) ≡ true
    by None = refl
    by (Some slot) = at (slice_get plan.objects slot.object)
        (λ x e. all_get (λ o. are_apart (λ m n. m == n) o.characteristics) plan.objects slot.object x valid.classes e)

none_left : (q p : ℕ → Bool) (xs : List ℕ) → list_any p xs ≡ false → list_any p (filter q xs) ≡ false
none_left q p [] e = refl
none_left q p (x ∷ xs) e = by (q x) (none_left q p xs (parts (p x) (list_any p xs) e).1)
  where
    parts : (a b : Bool) → (a || b) ≡ false → (a ≡ false) × (b ≡ false)
    parts true b h = absurd (cc)
    parts false b h = (refl, h)

    by : (b : Bool) → list_any p (filter q xs) ≡ false → list_any p (cond b (x ∷ filter q xs) (filter q xs)) ≡ false
    by true later = ap₂ (λ (a b : Bool). a || b) (parts (p x) (list_any p xs) e).0 later
    by false later = later

filter_apart : (q : ℕ → Bool) (xs : List ℕ) → are_apart (λ m n. m == n) xs ≡ true
    → are_apart (λ m n. m == n) (filter q xs) ≡ true
filter_apart q [] h = refl
filter_apart q (x ∷ xs) h = by (q x) (filter_apart q xs parts.1)
  where
    parts : (not (list_any (λ n. x == n) xs) ≡ true) × (are_apart (λ m n. m == n) xs ≡ true)
    parts = and_parts (not (list_any (λ n. x == n) xs)) (are_apart (λ m n. m == n) xs) h

    not_true : (b : Bool) → not b ≡ true → b ≡ false
    not_true true e = absurd (cc)
    not_true false e = refl

    by : (b : Bool) → are_apart (λ m n. m == n) (filter q xs) ≡ true
        → are_apart (λ m n. m == n) (cond b (x ∷ filter q xs) (filter q xs)) ≡ true
    by true later = and_from (not (list_any (λ n. x == n) (filter q xs))) (are_apart (λ m n. m == n) (filter q xs))
        (ap not (none_left q (λ n. x == n) xs (not_true (list_any (λ n. x == n) xs) parts.0))) later
    by false later = later

left_of : (q : ℕ → Bool) (c : ℕ) (xs : List ℕ) → list_any (λ d. d == c) (filter q xs) ≡ true
    → (list_any (λ d. d == c) xs ≡ true) × (q c ≡ true)
left_of q c [] e = absurd (cc)
left_of q c (x ∷ xs) e = by (q x) refl e (left_of q c xs)
  where
    skip : (b : Bool) → list_any (λ d. d == c) xs ≡ true → (b || list_any (λ d. d == c) xs) ≡ true
    skip true h = refl
    skip false h = h

    by : (b : Bool) → q x ≡ b → list_any (λ d. d == c) (cond b (x ∷ filter q xs) (filter q xs)) ≡ true
        → (list_any (λ d. d == c) (filter q xs) ≡ true → (list_any (λ d. d == c) xs ≡ true) × (q c ≡ true))
        → (((x == c) || list_any (λ d. d == c) xs) ≡ true) × (q c ≡ true)
    by true h f later = elim (or_cases (x == c) (list_any (λ d. d == c) (filter q xs)) f) [
      | inl here ↦ (ap (λ b. b || list_any (λ d. d == c) xs) here, ap q (sym (eqb-true x c here)) ∙ h)
      | inr more ↦ (skip (x == c) (later more).0, (later more).1)
    ]
    by false h f later = (skip (x == c) (later f).0, (later f).1)

numbers_are : (xs ys : List ℕ) → same_numbers xs ys ≡ true → xs ≡ ys
numbers_are [] [] h = refl
numbers_are [] (y ∷ ys) h = absurd (cc)
numbers_are (x ∷ xs) [] h = absurd (cc)
numbers_are (x ∷ xs) (y ∷ ys) h =
    let parts = and_parts (x == y) (same_numbers xs ys) h in
    ap₂ (λ n ns. n ∷ ns) (eqb-true x y parts.0) (numbers_are xs ys parts.1)

own_vars : (plan : Plan) → IsValid plan → (i : ℕ) → i < length plan.slots
    → vars_at plan i ≡ filter (λ c. not (has_sets plan c)) (class_of plan i)
own_vars plan valid i low =
    let plain : 0 + i ≡ i = omega arith in
    numbers_are (vars_at plan i) (filter (λ c. not (has_sets plan c)) (class_of plan i))
    (subst (λ j. has_its_vars plan j ≡ true) plain
    (each_below (has_its_vars plan) 0 (length plan.slots) i valid.class_vars low))

own_sets : (plan : Plan) → IsValid plan → (i : ℕ) → i < length plan.slots
    → sets_at plan i ≡ filter (has_sets plan) (class_of plan i)
own_sets plan valid i low =
    let plain : 0 + i ≡ i = omega arith in
    numbers_are (sets_at plan i) (filter (has_sets plan) (class_of plan i))
    (subst (λ j. has_its_sets plan j ≡ true) plain
    (each_below (has_its_sets plan) 0 (length plan.slots) i valid.class_sets low))

abbrev var_slot : Variable → ℕ
var_slot x = x.slot

abbrev var_characteristic : Variable → ℕ
var_characteristic x = x.characteristic

abbrev set_slot : TextSet → ℕ
set_slot x = x.slot

abbrev set_characteristic : TextSet → ℕ
set_characteristic x = x.characteristic

var_test : (i c : ℕ) (o : Option Variable) → is_var_of i c o ≡ is_at var_slot var_characteristic i c o
var_test i c None = refl
var_test i c (Some x) = refl

set_test : (i c : ℕ) (o : Option TextSet) → is_set_of i c o ≡ is_at set_slot set_characteristic i c o
set_test i c None = refl
set_test i c (Some x) = refl

get_low : {X : Type 0} (xs : List X) (k : ℕ) (x : X) → slice_get xs k ≡ Some x → k < length xs
get_low [] k x e = absurd (cc)
get_low (y ∷ xs) zero x e = omega arith
get_low (y ∷ xs) (suc k) x e = omega (arith, get_low xs k x e)

-- a variable of the plan, and a set, by slot and characteristic
pub var_named : (plan : Plan) → IsValid plan → (v : ℕ) (x : Variable) → slice_get plan.vars v ≡ Some x
    → x.slot < length plan.slots → named_of plan x.slot x.characteristic ≡ Some (Var v)
var_named plan valid v x e low =
    let i = x.slot in
    let c = x.characteristic in
    let there : is_at var_slot var_characteristic i c (slice_get plan.vars v) ≡ true =
    ap (is_at var_slot var_characteristic i c) e
    ∙ and_from (x.slot == i) (x.characteristic == c) (eq-eqb i i refl) (eq-eqb c c refl) in
    let apart : are_apart (λ m n. m == n) (vars_at plan i) ≡ true =
    ap (are_apart (λ m n. m == n)) (own_vars plan valid i low)
    ∙ filter_apart (λ d. not (has_sets plan d)) (class_of plan i) (class_apart plan valid i) in
    let plain : 0 + v ≡ v = omega arith in
    let found : var_of plan i c ≡ Some v =
    find_only (λ w. is_var_of i c (slice_get plan.vars w)) 0 (length plan.vars) v
    (ap (λ w. is_var_of i c (slice_get plan.vars w)) plain ∙ var_test i c (slice_get plan.vars v) ∙ there)
    (get_low plan.vars v x e)
    (λ w h. only_at var_slot var_characteristic i c plan.vars apart w v
    (sym (var_test i c (slice_get plan.vars w)) ∙ h) there ∙ sym plain)
    ∙ ap Some plain in
    ap (λ o. named_by o (set_named (set_of plan i c))) found

-- the characteristic of a set is none of a variable there
no_var : (plan : Plan) → IsValid plan → (i c : ℕ) → i < length plan.slots → has_sets plan c ≡ true
    → var_of plan i c ≡ None
no_var plan valid i c low sets =
    find_none (λ w. is_var_of i c (slice_get plan.vars w)) (range_with_len 0 (length plan.vars))
    (λ w. by w (is_var_of i c (slice_get plan.vars w)) refl)
  where
    by : (w : ℕ) (b : Bool) → is_var_of i c (slice_get plan.vars w) ≡ b → is_var_of i c (slice_get plan.vars w) ≡ false
    by w false h = h
    by w true h =
        let among = stands_at var_slot var_characteristic i c plan.vars w
        (sym (var_test i c (slice_get plan.vars w)) ∙ h) in
        let left = left_of (λ d. not (has_sets plan d)) c (class_of plan i)
        (sym (ap (list_any (λ d. d == c)) (own_vars plan valid i low)) ∙ among) in
        let wrong : false ≡ true = sym (ap not sets) ∙ left.1 in absurd (cc)

pub set_named_at : (plan : Plan) → IsValid plan → (s : ℕ) (x : TextSet) → slice_get plan.sets s ≡ Some x
    → x.slot < length plan.slots → named_of plan x.slot x.characteristic ≡ Some (Set s)
set_named_at plan valid s x e low =
    let i = x.slot in
    let c = x.characteristic in
    let there : is_at set_slot set_characteristic i c (slice_get plan.sets s) ≡ true =
    ap (is_at set_slot set_characteristic i c) e
    ∙ and_from (x.slot == i) (x.characteristic == c) (eq-eqb i i refl) (eq-eqb c c refl) in
    let apart : are_apart (λ m n. m == n) (sets_at plan i) ≡ true =
    ap (are_apart (λ m n. m == n)) (own_sets plan valid i low)
    ∙ filter_apart (has_sets plan) (class_of plan i) (class_apart plan valid i) in
    let plain : 0 + s ≡ s = omega arith in
    let found : set_of plan i c ≡ Some s =
    find_only (λ w. is_set_of i c (slice_get plan.sets w)) 0 (length plan.sets) s
    (ap (λ w. is_set_of i c (slice_get plan.sets w)) plain ∙ set_test i c (slice_get plan.sets s) ∙ there)
    (get_low plan.sets s x e)
    (λ w h. only_at set_slot set_characteristic i c plan.sets apart w s
    (sym (set_test i c (slice_get plan.sets w)) ∙ h) there ∙ sym plain)
    ∙ ap Some plain in
    let sets : has_sets plan c ≡ true = any_get (λ y. y.characteristic == c) plan.sets s x e (eq-eqb c c refl) in
    ap₂ (λ o t. named_by o (set_named t)) (no_var plan valid i c low sets) found

-- the class of its slot has its characteristic
pub class_has_var : (plan : Plan) → IsValid plan → (v : ℕ) (x : Variable) → slice_get plan.vars v ≡ Some x
    → x.slot < length plan.slots → list_any (λ d. d == x.characteristic) (class_of plan x.slot) ≡ true
class_has_var plan valid v x e low =
    let i = x.slot in
    let c = x.characteristic in
    let there : is_at var_slot var_characteristic i c (slice_get plan.vars v) ≡ true =
    ap (is_at var_slot var_characteristic i c) e
    ∙ and_from (x.slot == i) (x.characteristic == c) (eq-eqb i i refl) (eq-eqb c c refl) in
    (left_of (λ d. not (has_sets plan d)) c (class_of plan i)
    (sym (ap (list_any (λ d. d == c)) (own_vars plan valid i low))
    ∙ stands_at var_slot var_characteristic i c plan.vars v there)).0

pub class_has_set : (plan : Plan) → IsValid plan → (s : ℕ) (x : TextSet) → slice_get plan.sets s ≡ Some x
    → x.slot < length plan.slots → list_any (λ d. d == x.characteristic) (class_of plan x.slot) ≡ true
class_has_set plan valid s x e low =
    let i = x.slot in
    let c = x.characteristic in
    let there : is_at set_slot set_characteristic i c (slice_get plan.sets s) ≡ true =
    ap (is_at set_slot set_characteristic i c) e
    ∙ and_from (x.slot == i) (x.characteristic == c) (eq-eqb i i refl) (eq-eqb c c refl) in
    (left_of (has_sets plan) c (class_of plan i)
    (sym (ap (list_any (λ d. d == c)) (own_sets plan valid i low))
    ∙ stands_at set_slot set_characteristic i c plan.sets s there)).0
