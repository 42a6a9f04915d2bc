-- No two of the values that are saved stand at one place.
use Rattle.std.proofs.Common.{◌≡◌, ℕ, zero, suc, ◌+◌, ◌<◌, Bool, true, false, cond, not, ◌&&◌, ◌||◌, List, [], ◌∷◌}
use Rattle.std.proofs.Common.{◌++◌}
use Rattle.std.proofs.Common.{length, map, refl, sym, ap, ap₂, ◌∙◌, arith}
use Rattle.std.specs.Prelude.{◌==◌, Option, None, Some, slice_get, slice_index_or, option_to_list}
use Rattle.std.specs.List.{filter, flat_map, list_all, list_any, range_with_len}
use Rattle.std.specs.Option.{option_map}
use Rattle.std.proofs.lemmas.Bool.{and_from, and_parts, eq-eqb, eqb-true, ne_eqb}
use Rattle.vc_value.specs.declared.table_header.Domain.{Domain}
use Rattle.vc_value.specs.declared.table_header.Domain.TheVariants.{Texts, Nums}
use Rattle.vc_value.specs.declared.value.Value.{Value}
use Rattle.vc_value.specs.declared.value.Value.TheVariants.{Text}
use Rattle.vc_plan.specs.declared.plans.Named.{Named}
use Rattle.vc_plan.specs.declared.plans.Named.TheVariants.{Set, Var}
use Rattle.vc_plan.specs.declared.plans.Plan.{Plan}
use Rattle.vc_plan.specs.declared.plans.TextSet.{TextSet}
use Rattle.vc_plan.specs.declared.plans.Var.{Var as Variable}
use Rattle.vc_plan.specs.Alike.{is_proper}
use Rattle.vc_plan.specs.Domains.{domain_of_set, numbers_below, texts_in, texts_of}
use Rattle.vc_plan.specs.Orders.{are_apart}
use Rattle.vc_plan.specs.Valid.{IsValid}
use Rattle.vc_plan_users.specs.Choosing.{Chosen, held_texts, set_at}
use Rattle.vc_plan_users.specs.declared.users.SetText.{SetText}
use Rattle.vc_show_rows.specs.Rows.{class_of, named_of}
use Rattle.vc_desk_names.proofs.NameLaws.{all_get}
use Rattle.vc_store.specs.Marking.{AreFor}
use Rattle.vc_store.specs.Meaning.{Place, at_text, at_var, same_place}
use Rattle.vc_store.proofs.FoundLaws.{class_apart}
use Rattle.vc_store.proofs.GivensLaws.{flat_append, given_of, givens, givens_at, givens_if, place_of, set_stands}
use Rattle.vc_store.proofs.GivensLaws.{var_stands}

-- one place alone is the same
place_same : (p q : Place) → same_place p q ≡ true → p ≡ q
place_same (at_var v) (at_var w) e = ap at_var (eqb-true v w e)
place_same (at_var v) (at_text s t) e = absurd (cc)
place_same (at_text s t) (at_var v) e = absurd (cc)
place_same (at_text s t) (at_text r u) e =
    let parts = and_parts (s == r) (t == u) e in ap₂ at_text (eqb-true s r parts.0) (eqb-true t u parts.1)

-- whose places are owned by numbers
abbrev owned_by : ℕ → Option ℕ → Bool
owned_by k None = false
owned_by k (Some n) = n == k

module _ (owner : Place → Option ℕ) where
  abbrev AllOwned : ℕ → List Place → Type 0
  AllOwned k ps = list_all (λ p. owned_by k (owner p)) ps ≡ true

  abbrev NoneOwned : ℕ → List Place → Type 0
  NoneOwned k ps = list_all (λ p. not (owned_by k (owner p))) ps ≡ true

  other_owner : (k : ℕ) (p q : Place) → owned_by k (owner p) ≡ true → not (owned_by k (owner q)) ≡ true
      → same_place p q ≡ false
  other_owner k p q mine others = by (same_place p q) refl
    where
      by : (b : Bool) → same_place p q ≡ b → same_place p q ≡ false
      by false e = e
      by true e =
          let wrong : not true ≡ true =
          ap not (sym mine ∙ ap (λ r. owned_by k (owner r)) (place_same p q e)) ∙ others in absurd (cc)

  none_same : (k : ℕ) (p : Place) (qs : List Place) → owned_by k (owner p) ≡ true → NoneOwned k qs
      → list_any (same_place p) qs ≡ false
  none_same k p [] mine others = refl
  none_same k p (q ∷ qs) mine others =
      let parts = and_parts (not (owned_by k (owner q))) (list_all (λ p. not (owned_by k (owner p))) qs) others in
      ap₂ (λ (a b : Bool). a || b) (other_owner k p q mine parts.0) (none_same k p qs mine parts.1)

  any_apart : (p : Place) (ps qs : List Place) → list_any (same_place p) (ps ++ qs)
      ≡ (list_any (same_place p) ps || list_any (same_place p) qs)
  any_apart p [] qs = refl
  any_apart p (q ∷ ps) qs = ap (λ b. same_place p q || b) (any_apart p ps qs) ∙ joined (same_place p q)
    where
      joined : (b : Bool) → (b || (list_any (same_place p) ps || list_any (same_place p) qs))
          ≡ ((b || list_any (same_place p) ps) || list_any (same_place p) qs)
      joined true = refl
      joined false = refl

  apart_append : (k : ℕ) (ps qs : List Place) → AllOwned k ps → NoneOwned k qs → are_apart same_place ps ≡ true
      → are_apart same_place qs ≡ true → are_apart same_place (ps ++ qs) ≡ true
  apart_append k [] qs mine others a b = b
  apart_append k (p ∷ ps) qs mine others a b =
      let own = and_parts (owned_by k (owner p)) (list_all (λ p. owned_by k (owner p)) ps) mine in
      let parts = and_parts (not (list_any (same_place p) ps)) (are_apart same_place ps) a in
      and_from (not (list_any (same_place p) (ps ++ qs))) (are_apart same_place (ps ++ qs))
      (ap not (any_apart p ps qs ∙ ap (λ c. list_any (same_place p) ps || c) (none_same k p qs own.0 others))
      ∙ still (list_any (same_place p) ps) parts.0)
      (apart_append k ps qs own.1 others parts.1 b)
    where
      still : (c : Bool) → not c ≡ true → not (c || false) ≡ true
      still true h = h
      still false h = refl

  all_joined : (test : Place → Bool) (ps qs : List Place) → list_all test ps ≡ true → list_all test qs ≡ true
      → list_all test (ps ++ qs) ≡ true
  all_joined test [] qs a b = b
  all_joined test (p ∷ ps) qs a b =
      let parts = and_parts (test p) (list_all test ps) a in
      and_from (test p) (list_all test (ps ++ qs)) parts.0 (all_joined test ps qs parts.1 b)

  others_owned : (k n : ℕ) → (n == k) ≡ false → (ps : List Place) → AllOwned n ps → NoneOwned k ps
  others_owned k n apart [] mine = refl
  others_owned k n apart (p ∷ ps) mine =
      let own = and_parts (owned_by n (owner p)) (list_all (λ p. owned_by n (owner p)) ps) mine in
      and_from (not (owned_by k (owner p))) (list_all (λ p. not (owned_by k (owner p))) ps)
      (by (owner p) own.0) (others_owned k n apart ps own.1)
    where
      by : (o : Option ℕ) → owned_by n o ≡ true → not (owned_by k o) ≡ true
      by None e = absurd (cc)
      by (Some m) e = ap (λ j. not (j == k)) (eqb-true m n e) ∙ ap not apart

  none_later : (F : ℕ → List Place) → ((n : ℕ) → AllOwned n (F n)) → (k : ℕ) (ns : List ℕ)
      → list_any (λ n. k == n) ns ≡ false → NoneOwned k (flat_map F ns)
  none_later F each k [] e = refl
  none_later F each k (n ∷ ns) e =
      let parts = neither (k == n) (list_any (λ n. k == n) ns) e in
      all_joined (λ p. not (owned_by k (owner p))) (F n) (flat_map F ns)
      (others_owned k n (turned k n parts.0) (F n) (each n)) (none_later F each k ns parts.1)
    where
      neither : (a b : Bool) → (a || b) ≡ false → (a ≡ false) × (b ≡ false)
      neither true b h = absurd (cc)
      neither false b h = (refl, h)

      turned : (k n : ℕ) → (k == n) ≡ false → (n == k) ≡ false
      turned k n h = ne_eqb n k (λ same. let wrong : true ≡ false = sym (eq-eqb k n (sym same)) ∙ h in absurd (cc))

  pub flat_apart : (F : ℕ → List Place) → ((n : ℕ) → AllOwned n (F n)) → ((n : ℕ) → are_apart same_place (F n) ≡ true)
      → (ns : List ℕ) → are_apart (λ m n. m == n) ns ≡ true → are_apart same_place (flat_map F ns) ≡ true
  flat_apart F each apart [] ns = refl
  flat_apart F each apart (n ∷ ns) h =
      let parts = and_parts (not (list_any (λ m. n == m) ns)) (are_apart (λ m n. m == n) ns) h in
      apart_append n (F n) (flat_map F ns) (each n)
      (none_later F each n ns (not_true (list_any (λ m. n == m) ns) parts.0))
      (apart n) (flat_apart F each apart ns parts.1)
    where
      not_true : (b : Bool) → not b ≡ true → b ≡ false
      not_true true e = absurd (cc)
      not_true false e = refl

  pub flat_owned : {X : Type 0} (k : ℕ) (F : X → List Place) → ((x : X) → AllOwned k (F x)) → (xs : List X)
      → AllOwned k (flat_map F xs)
  flat_owned k F each [] = refl
  flat_owned k F each (x ∷ xs) =
      all_joined (λ p. owned_by k (owner p)) (F x) (flat_map F xs) (each x) (flat_owned k F each xs)

-- whose slot, and whose characteristic
abbrev slot_in : Option Variable → Option ℕ
slot_in o = option_map (λ x. x.slot) o

abbrev slot_in_set : Option TextSet → Option ℕ
slot_in_set o = option_map (λ x. x.slot) o

abbrev class_in : Option Variable → Option ℕ
class_in o = option_map (λ x. x.characteristic) o

abbrev class_in_set : Option TextSet → Option ℕ
class_in_set o = option_map (λ x. x.characteristic) o

slot_owner : Plan → Place → Option ℕ
slot_owner plan (at_var v) = slot_in (slice_get plan.vars v)
slot_owner plan (at_text s t) = slot_in_set (slice_get plan.sets s)

class_owner : Plan → Place → Option ℕ
class_owner plan (at_var v) = class_in (slice_get plan.vars v)
class_owner plan (at_text s t) = class_in_set (slice_get plan.sets s)

-- the places of a set's texts
texts_places : (s : ℕ) (ts : List ℕ) → flat_map place_of (map (given_of (Set s)) (map Text ts)) ≡ map (at_text s) ts
texts_places s [] = refl
texts_places s (t ∷ ts) = ap (λ ps. at_text s t ∷ ps) (texts_places s ts)

all_texts : (test : Place → Bool) (s : ℕ) (ts : List ℕ) → ((t : ℕ) → test (at_text s t) ≡ true)
    → list_all test (map (at_text s) ts) ≡ true
all_texts test s [] each = refl
all_texts test s (t ∷ ts) each =
    and_from (test (at_text s t)) (list_all test (map (at_text s) ts)) (each t) (all_texts test s ts each)

same_texts : (s t : ℕ) (ts : List ℕ) → list_any (same_place (at_text s t)) (map (at_text s) ts)
    ≡ list_any (λ u. t == u) ts
same_texts s t [] = refl
same_texts s t (u ∷ ts) = ap₂ (λ (a b : Bool). (a && (t == u)) || b) (eq-eqb s s refl) (same_texts s t ts)

texts_apart : (s : ℕ) (ts : List ℕ) → are_apart (λ m n. m == n) ts ≡ true
    → are_apart same_place (map (at_text s) ts) ≡ true
texts_apart s [] h = refl
texts_apart s (t ∷ ts) h =
    let parts = and_parts (not (list_any (λ u. t == u) ts)) (are_apart (λ m n. m == n) ts) h in
    and_from (not (list_any (same_place (at_text s t)) (map (at_text s) ts)))
    (are_apart same_place (map (at_text s) ts))
    (ap not (same_texts s t ts) ∙ parts.0) (texts_apart s ts parts.1)

-- texts that are held are some of the list, which has each once
abbrev pub texts_listed : List SetText → List ℕ
texts_listed xs = map (λ x. x.text) xs

pub neither : (a b : Bool) → (a || b) ≡ false → (a ≡ false) × (b ≡ false)
neither true b h = absurd (cc)
neither false b h = (refl, h)

pub none_held_among : (t : ℕ) (xs : List SetText) → list_any (λ u. t == u) (texts_listed xs) ≡ false
    → list_any (λ u. t == u) (held_texts xs) ≡ false
none_held_among t [] e = refl
none_held_among t (x ∷ xs) e = by (none_held_among t xs parts.1) x.held
  where
    parts : ((t == x.text) ≡ false) × (list_any (λ u. t == u) (texts_listed xs) ≡ false)
    parts = neither (t == x.text) (list_any (λ u. t == u) (texts_listed xs)) e

    by : list_any (λ u. t == u) (held_texts xs) ≡ false → (b : Bool) → list_any (λ u. t == u)
        (map (λ x. x.text) (cond b (x ∷ filter (λ y. y.held) xs) (filter (λ y. y.held) xs))) ≡ false
    by later true = ap₂ (λ (a b : Bool). a || b) parts.0 later
    by later false = later

-- the first of some texts that are apart is none of the others
pub first_alone : (x : SetText) (xs : List SetText) → are_apart (λ m n. m == n) (texts_listed (x ∷ xs)) ≡ true
    → (list_any (λ u. x.text == u) (texts_listed xs) ≡ false) × (are_apart (λ m n. m == n) (texts_listed xs) ≡ true)
first_alone x xs h =
    let parts = and_parts (not (list_any (λ u. x.text == u) (texts_listed xs)))
    (are_apart (λ m n. m == n) (texts_listed xs)) h in
    (not_true (list_any (λ u. x.text == u) (texts_listed xs)) parts.0, parts.1)
  where
    not_true : (b : Bool) → not b ≡ true → b ≡ false
    not_true true e = absurd (cc)
    not_true false e = refl

pub held_apart : (xs : List SetText) → are_apart (λ m n. m == n) (texts_listed xs) ≡ true
    → are_apart (λ m n. m == n) (held_texts xs) ≡ true
held_apart [] h = refl
held_apart (x ∷ xs) h = by (held_apart xs parts.1) x.held
  where
    parts : (list_any (λ u. x.text == u) (texts_listed xs) ≡ false)
        × (are_apart (λ m n. m == n) (texts_listed xs) ≡ true)
    parts = first_alone x xs h

    by : are_apart (λ m n. m == n) (held_texts xs) ≡ true → (b : Bool) → are_apart (λ m n. m == n)
        (map (λ x. x.text) (cond b (x ∷ filter (λ y. y.held) xs) (filter (λ y. y.held) xs))) ≡ true
    by later true =
        and_from (not (list_any (λ u. x.text == u) (held_texts xs))) (are_apart (λ m n. m == n) (held_texts xs))
        (ap not (none_held_among x.text xs parts.0)) later
    by later false = later

pub list_apart : (plan : Plan) → IsValid plan → (s : ℕ) → are_apart (λ m n. m == n) (texts_of plan s) ≡ true
list_apart plan valid s = by (slice_get plan.sets s)
  where
    of_domain : (d : ℕ) (o : Option Domain) → slice_get plan.domains d ≡ o
        → are_apart (λ m n. m == n) (texts_in o) ≡ true
    of_domain d None e = refl
    of_domain d (Some (Texts ts)) e = all_get is_proper plan.domains d (Texts ts) valid.proper e
    of_domain d (Some (Nums n gs)) e = refl

    by : (o : Option TextSet) → are_apart (λ m n. m == n) (texts_in (domain_of_set plan o)) ≡ true
    by None = refl
    by (Some x) = of_domain x.domain (slice_get plan.domains x.domain) refl

-- so all places of what is saved
range_apart : (a n : ℕ) → are_apart (λ m n. m == n) (range_with_len a n) ≡ true
range_apart a zero = refl
range_apart a (suc n) =
    and_from (not (list_any (λ m. a == m) (range_with_len (a + 1) n)))
    (are_apart (λ m n. m == n) (range_with_len (a + 1) n))
    (ap not (behind a (a + 1) n (omega arith))) (range_apart (a + 1) n)
  where
    behind : (k b n : ℕ) → k < b → list_any (λ m. k == m) (range_with_len b n) ≡ false
    behind k b zero low = refl
    behind k b (suc n) low =
        ap₂ (λ (x y : Bool). x || y) (ne_eqb k b (λ e. omega (arith, low, e))) (behind k (b + 1) n (omega (arith, low)))

module _ (plan : Plan) (valid : IsValid plan) (chosen : Chosen) (of : AreFor plan chosen) where
  abbrev block : Option Named → List Place
  block o = flat_map place_of (givens_if chosen o)

  var_block : (test : Place → Bool) (v : ℕ) → test (at_var v) ≡ true → list_all test (block (Some (Var v))) ≡ true
  var_block test v h = by (slice_index_or chosen.values v None)
    where
      by : (o : Option Value) → list_all test (flat_map place_of (map (given_of (Var v)) (option_to_list o))) ≡ true
      by None = refl
      by (Some a) = ap (λ b. b && true) h

  set_block : (test : Place → Bool) (s : ℕ) → ((t : ℕ) → test (at_text s t) ≡ true)
      → list_all test (block (Some (Set s))) ≡ true
  set_block test s h =
      ap (list_all test) (texts_places s (held_texts (set_at chosen s)))
      ∙ all_texts test s (held_texts (set_at chosen s)) h

  block_slot : (i c : ℕ) (o : Option Named) → named_of plan i c ≡ o → AllOwned (slot_owner plan) i (block o)
  unfolding slot_owner
  block_slot i c None e = refl
  block_slot i c (Some (Var v)) e =
      let at = var_stands plan i c v e in
      var_block (λ p. owned_by i (slot_owner plan p)) v
      (ap (λ x. owned_by i (slot_in x)) at.1 ∙ eq-eqb at.0.slot i at.2)
  block_slot i c (Some (Set s)) e =
      let at = set_stands plan i c s e in
      set_block (λ p. owned_by i (slot_owner plan p)) s
      (λ t. ap (λ x. owned_by i (slot_in_set x)) at.1 ∙ eq-eqb at.0.slot i at.2)

  block_class : (i c : ℕ) (o : Option Named) → named_of plan i c ≡ o → AllOwned (class_owner plan) c (block o)
  unfolding class_owner
  block_class i c None e = refl
  block_class i c (Some (Var v)) e =
      let at = var_stands plan i c v e in
      var_block (λ p. owned_by c (class_owner plan p)) v
      (ap (λ x. owned_by c (class_in x)) at.1 ∙ eq-eqb at.0.characteristic c at.3)
  block_class i c (Some (Set s)) e =
      let at = set_stands plan i c s e in
      set_block (λ p. owned_by c (class_owner plan p)) s
      (λ t. ap (λ x. owned_by c (class_in_set x)) at.1 ∙ eq-eqb at.0.characteristic c at.3)

  block_apart : (o : Option Named) → are_apart same_place (block o) ≡ true
  block_apart None = refl
  block_apart (Some (Var v)) = by (slice_index_or chosen.values v None)
    where
      by : (o : Option Value) → are_apart same_place (flat_map place_of (map (given_of (Var v)) (option_to_list o)))
          ≡ true
      by None = refl
      by (Some a) = refl
  block_apart (Some (Set s)) =
      ap (are_apart same_place) (texts_places s (held_texts (set_at chosen s)))
      ∙ texts_apart s (held_texts (set_at chosen s)) (held_apart (set_at chosen s)
      (ap (are_apart (λ m n. m == n)) (of.sets s) ∙ list_apart plan valid s))

  flat_flat : {X Y Z : Type 0} (f : Y → List Z) (g : X → List Y) (xs : List X)
      → flat_map f (flat_map g xs) ≡ flat_map (λ x. flat_map f (g x)) xs
  flat_flat f g [] = refl
  flat_flat f g (x ∷ xs) = flat_append f (g x) (flat_map g xs) ∙ ap (λ ys. flat_map f (g x) ++ ys) (flat_flat f g xs)

  slot_apart : (i : ℕ) → are_apart same_place (flat_map (λ c. block (named_of plan i c)) (class_of plan i)) ≡ true
  slot_apart i =
      flat_apart (class_owner plan) (λ c. block (named_of plan i c)) (λ c. block_class i c (named_of plan i c) refl)
      (λ c. block_apart (named_of plan i c)) (class_of plan i) (class_apart plan valid i)

  pub places_apart : are_apart same_place (flat_map place_of (givens plan chosen)) ≡ true
  places_apart =
      ap (are_apart same_place) (flat_flat place_of (givens_at plan chosen) (numbers_below (length plan.slots)))
      ∙ flat_apart (slot_owner plan) (λ i. flat_map place_of (givens_at plan chosen i))
      (λ i. ap (list_all (λ p. owned_by i (slot_owner plan p)))
      (flat_flat place_of (λ c. givens_if chosen (named_of plan i c)) (class_of plan i))
      ∙ flat_owned (slot_owner plan) i (λ c. block (named_of plan i c)) (λ c. block_slot i c (named_of plan i c) refl)
      (class_of plan i))
      (λ i. ap (are_apart same_place) (flat_flat place_of (λ c. givens_if chosen (named_of plan i c)) (class_of plan i))
      ∙ slot_apart i)
      (numbers_below (length plan.slots)) (range_apart 0 (length plan.slots))
