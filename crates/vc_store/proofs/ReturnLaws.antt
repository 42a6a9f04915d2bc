-- The values that are saved give back what was chosen.
use Rattle.std.proofs.Common.{◌≡◌, ℕ, zero, suc, ◌+◌, ◌<◌, ◌≤◌, Bool, true, false, cond, ◌&&◌, ◌||◌, List, [], ◌∷◌}
use Rattle.std.proofs.Common.{◌++◌}
use Rattle.std.proofs.Common.{length, map, refl, sym, ap, ap₂, ◌∙◌, subst, arith, inl, inr, ◌⊎◌}
use Rattle.std.specs.Prelude.{◌==◌, Option, None, Some, slice_index_or, option_to_list}
use Rattle.std.specs.List.{filter, flat_map, list_any, range_with_len}
use Rattle.std.proofs.lemmas.Bool.{and_parts, eq-eqb, eqb-true, lt-ltb, ltb-true}
use Rattle.vc_value.specs.declared.value.Value.{Value}
use Rattle.vc_value.specs.declared.value.Value.TheVariants.{Text}
use Rattle.vc_plan.specs.declared.plans.Named.{Named}
use Rattle.vc_plan.specs.declared.plans.Named.TheVariants.{Set, Var}
use Rattle.vc_plan.specs.declared.plans.Plan.{Plan}
use Rattle.vc_plan.specs.Domains.{numbers_below, texts_of}
use Rattle.vc_plan.specs.Orders.{are_apart}
use Rattle.vc_plan.specs.Ranges.{is_of, set_there, var_there}
use Rattle.vc_plan.specs.Valid.{IsValid}
use Rattle.vc_plan_users.specs.Choosing.{Chosen, held_texts, set_at}
use Rattle.vc_plan_users.specs.declared.users.SetText.{SetText}
use Rattle.vc_show_rows.specs.Rows.{class_of, named_of}
use Rattle.vc_desk_names.proofs.NameLaws.{all_get}
use Rattle.vc_store.specs.Marking.{AreFor}
use Rattle.vc_store.specs.Meaning.{Given, chosen_by, is_text_of, or_value, text_given, value_given, var_value}
use Rattle.vc_store.specs.Saving.{values_of}
use Rattle.vc_store.proofs.ApartLaws.{first_alone, list_apart, neither, none_held_among, texts_listed}
use Rattle.vc_store.proofs.FoundLaws.{class_has_set, class_has_var, set_named_at, var_named}
use Rattle.vc_store.proofs.GivensLaws.{get_there, given_of, givens, givens_at, givens_if}

-- what is gathered over lists, where some give it and the others nothing
module _ {A : Type 0} (gathered : List Given → A) (join : A → A → A) (nothing w : A) (empty : gathered [] ≡ nothing)
    (both : (xs ys : List Given) → gathered (xs ++ ys) ≡ join (gathered xs) (gathered ys))
    (left : (a : A) → join a nothing ≡ a) (right : (a : A) → join nothing a ≡ a) (twice : join w w ≡ w) where
  abbrev IsAmong : A → Type 0
  IsAmong a = (a ≡ nothing) ⊎ (a ≡ w)

  join_among : (a b : A) → IsAmong a → IsAmong b → IsAmong (join a b)
  join_among a b (inl e) (inl f) = inl (ap₂ join e f ∙ left nothing)
  join_among a b (inl e) (inr f) = inr (ap₂ join e f ∙ right w)
  join_among a b (inr e) (inl f) = inr (ap₂ join e f ∙ left w)
  join_among a b (inr e) (inr f) = inr (ap₂ join e f ∙ twice)

  first_gives : (a b : A) → a ≡ w → IsAmong b → join a b ≡ w
  first_gives a b e (inl f) = ap₂ join e f ∙ left w
  first_gives a b e (inr f) = ap₂ join e f ∙ twice

  second_gives : (a b : A) → IsAmong a → b ≡ w → join a b ≡ w
  second_gives a b (inl e) f = ap₂ join e f ∙ right w
  second_gives a b (inr e) f = ap₂ join e f ∙ twice

  flat_among : (g : ℕ → List Given) → ((x : ℕ) → IsAmong (gathered (g x))) → (xs : List ℕ)
      → IsAmong (gathered (flat_map g xs))
  flat_among g each [] = inl empty
  flat_among g each (x ∷ xs) =
      subst IsAmong (sym (both (g x) (flat_map g xs)))
      (join_among (gathered (g x)) (gathered (flat_map g xs)) (each x) (flat_among g each xs))

  flat_gives : (g : ℕ → List Given) → ((x : ℕ) → IsAmong (gathered (g x))) → (x : ℕ) → gathered (g x) ≡ w
      → (xs : List ℕ) → list_any (λ d. d == x) xs ≡ true → gathered (flat_map g xs) ≡ w
  flat_gives g each x gives [] e = absurd (cc)
  flat_gives g each x gives (y ∷ xs) e =
      both (g y) (flat_map g xs) ∙ by (y == x) refl e (flat_gives g each x gives xs)
    where
      by : (b : Bool) → (y == x) ≡ b → (b || list_any (λ d. d == x) xs) ≡ true
          → (list_any (λ d. d == x) xs ≡ true → gathered (flat_map g xs) ≡ w)
          → join (gathered (g y)) (gathered (flat_map g xs)) ≡ w
      by true h f later =
          first_gives (gathered (g y)) (gathered (flat_map g xs)) (ap (λ z. gathered (g z)) (eqb-true y x h) ∙ gives)
          (flat_among g each xs)
      by false h f later = second_gives (gathered (g y)) (gathered (flat_map g xs)) (each y) (later f)

-- a number of a range
range_has : (k a n : ℕ) → a ≤ k → k < a + n → list_any (λ d. d == k) (range_with_len a n) ≡ true
range_has k a zero low high = absurd (omega (arith, low, high))
range_has k a (suc n) low high = by (a == k) refl (range_has k (a + 1) n)
  where
    by : (b : Bool) → (a == k) ≡ b
        → (a + 1 ≤ k → k < (a + 1) + n → list_any (λ d. d == k) (range_with_len (a + 1) n) ≡ true)
        → (b || list_any (λ d. d == k) (range_with_len (a + 1) n)) ≡ true
    by true h later = refl
    by false h later = later (above (ne_of h)) (omega (arith, high))
      where
        ne_of : (a == k) ≡ false → (a ≡ k → ⊥)
        ne_of h e = let wrong : true ≡ false = sym (eq-eqb a k e) ∙ h in cc

        above : (a ≡ k → ⊥) → a + 1 ≤ k
        above ne = omega (arith, low, ne)

-- the elements of a list, one by one
pub numbered : {X : Type 0} (d : X) (f : ℕ → X) (xs : List X) (a : ℕ)
    → ((k : ℕ) → k < length xs → f (a + k) ≡ slice_index_or xs k d) → map f (range_with_len a (length xs)) ≡ xs
numbered d f [] a same = refl
numbered d f (x ∷ xs) a same =
    let here : a ≡ a + 0 = omega arith in
    ap₂ (λ y ys. y ∷ ys) (ap f here ∙ same 0 (omega arith)) (numbered d f xs (a + 1) behind)
  where
    behind : (k : ℕ) → k < length xs → f ((a + 1) + k) ≡ slice_index_or xs k d
    behind k low = let next : (a + 1) + k ≡ a + suc k = omega arith in ap f next ∙ same (suc k) (omega (arith, low))

-- values of a variable
or_none : (o : Option Value) → or_value o None ≡ o
or_none None = refl
or_none (Some a) = refl

or_twice : (o : Option Value) → or_value o o ≡ o
or_twice None = refl
or_twice (Some a) = refl

or_assoc : (o p q : Option Value) → or_value (or_value o p) q ≡ or_value o (or_value p q)
or_assoc None p q = refl
or_assoc (Some a) p q = refl

value_both : (v : ℕ) (xs ys : List Given)
    → value_given (xs ++ ys) v ≡ or_value (value_given ys v) (value_given xs v)
value_both v [] ys = sym (or_none (value_given ys v))
value_both v (g ∷ xs) ys =
    ap (λ o. or_value o (var_value v g.named g.value)) (value_both v xs ys)
    ∙ or_assoc (value_given ys v) (value_given xs v) (var_value v g.named g.value)

set_gives_none : (v s : ℕ) (values : List Value) → value_given (map (given_of (Set s)) values) v ≡ None
set_gives_none v s [] = refl
set_gives_none v s (a ∷ values) = ap (λ o. or_value o None) (set_gives_none v s values)

-- whether texts of sets are given
any_both : (p : Given → Bool) (xs ys : List Given) → list_any p (xs ++ ys) ≡ (list_any p xs || list_any p ys)
any_both p [] ys = refl
any_both p (x ∷ xs) ys =
    ap (λ b. p x || b) (any_both p xs ys) ∙ or_assoc_bool (p x) (list_any p xs) (list_any p ys)
  where
    or_assoc_bool : (a b c : Bool) → (a || (b || c)) ≡ ((a || b) || c)
    or_assoc_bool true b c = refl
    or_assoc_bool false b c = refl

or_false : (b : Bool) → (b || false) ≡ b
or_false true = refl
or_false false = refl

or_same : (b : Bool) → (b || b) ≡ b
or_same true = refl
or_same false = refl

abbrev is_given : ℕ → ℕ → Given → Bool
is_given s t g = is_text_of s t g.named g.value

var_gives_none : (s t v : ℕ) (values : List Value) → list_any (is_given s t) (map (given_of (Var v)) values) ≡ false
var_gives_none s t v [] = refl
var_gives_none s t v (a ∷ values) = var_gives_none s t v values

other_gives_none : (s t r : ℕ) → (r == s) ≡ false → (us : List ℕ)
    → list_any (is_given s t) (map (given_of (Set r)) (map Text us)) ≡ false
other_gives_none s t r h [] = refl
other_gives_none s t r h (u ∷ us) =
    ap₂ (λ a b. (a && (u == t)) || b) h (other_gives_none s t r h us)

own_gives : (s t r : ℕ) → (r == s) ≡ true → (us : List ℕ)
    → list_any (is_given s t) (map (given_of (Set r)) (map Text us)) ≡ list_any (λ u. u == t) us
own_gives s t r h [] = refl
own_gives s t r h (u ∷ us) = ap₂ (λ a b. (a && (u == t)) || b) h (own_gives s t r h us)

-- which texts of a list are held, by those that are
eqb_turns : (a b : ℕ) → (a == b) ≡ (b == a)
eqb_turns a b = by (a == b) (b == a) refl refl
  where
    by : (c d : Bool) → (a == b) ≡ c → (b == a) ≡ d → (a == b) ≡ (b == a)
    by true d h k = h ∙ sym (eq-eqb b a (sym (eqb-true a b h)))
    by false true h k = eq-eqb a b (sym (eqb-true b a k)) ∙ sym k
    by false false h k = h ∙ sym k

any_turns : (t : ℕ) (us : List ℕ) → list_any (λ u. u == t) us ≡ list_any (λ u. t == u) us
any_turns t [] = refl
any_turns t (u ∷ us) = ap₂ (λ (a b : Bool). a || b) (eqb_turns u t) (any_turns t us)

abbrev AllAgree : (ℕ → Bool) → List SetText → Type 0
AllAgree f [] = Unit {0}
AllAgree f (x ∷ xs) = (f x.text ≡ x.held) × AllAgree f xs

marks_back : (f : ℕ → Bool) (xs : List SetText) → AllAgree f xs
    → map (λ t. record { text = t; held = f t }) (texts_listed xs) ≡ xs
marks_back f [] agree = refl
marks_back f (x ∷ xs) agree =
    ap₂ (λ h ys. record { text = x.text; held = h } ∷ ys) agree.0 (marks_back f xs agree.1)

abbrev among_held : List SetText → ℕ → Bool
among_held xs t = list_any (λ u. u == t) (held_texts xs)

abbrev behind_one : SetText → Bool → List SetText → ℕ → Bool
behind_one x b rest t = list_any (λ u. u == t) (map (λ y. y.text) (cond b (x ∷ rest) rest))

widened : (x : SetText) (b : Bool) (rest ys : List SetText) → list_any (λ u. x.text == u) (texts_listed ys) ≡ false
    → AllAgree (λ t. list_any (λ u. u == t) (map (λ y. y.text) rest)) ys → AllAgree (behind_one x b rest) ys
widened x b rest [] apart agree = tt
widened x b rest (y ∷ ys) apart agree =
    let parts = neither (x.text == y.text) (list_any (λ u. x.text == u) (texts_listed ys)) apart in
    (by b parts.0 ∙ agree.0, widened x b rest ys parts.1 agree.1)
  where
    by : (b : Bool) → (x.text == y.text) ≡ false
        → behind_one x b rest y.text ≡ list_any (λ u. u == y.text) (map (λ z. z.text) rest)
    by true h = ap (λ c. c || list_any (λ u. u == y.text) (map (λ z. z.text) rest)) h
    by false h = refl

all_agree : (xs : List SetText) → are_apart (λ m n. m == n) (texts_listed xs) ≡ true → AllAgree (among_held xs) xs
all_agree [] h = tt
all_agree (x ∷ xs) h =
    let parts = first_alone x xs h in
    (head parts.0 x.held, widened x x.held (filter (λ y. y.held) xs) xs parts.0 (all_agree xs parts.1))
  where
    head : list_any (λ u. x.text == u) (texts_listed xs) ≡ false → (b : Bool)
        → behind_one x b (filter (λ y. y.held) xs) x.text ≡ b
    head alone true = ap (λ c. c || list_any (λ u. u == x.text) (held_texts xs)) (eq-eqb x.text x.text refl)
    head alone false = any_turns x.text (held_texts xs) ∙ none_held_among x.text xs alone

module _ (plan : Plan) (valid : IsValid plan) (chosen : Chosen) (of : AreFor plan chosen) where
  -- of a variable, over one name, over a slot and over all
  abbrev IsOf : ℕ → Option Value → Type 0
  IsOf v o = (o ≡ None) ⊎ (o ≡ slice_index_or chosen.values v None)

  value_of_named : (v : ℕ) (o : Option Named) → IsOf v (value_given (givens_if chosen o) v)
  value_of_named v None = inl refl
  value_of_named v (Some (Set s)) = inl (set_gives_none v s (values_of chosen (Set s)))
  value_of_named v (Some (Var w)) = by (slice_index_or chosen.values w None) refl
    where
      same : (b : Bool) (a : Value) → (w == v) ≡ b → slice_index_or chosen.values w None ≡ Some a
          → IsOf v (cond b (Some a) None)
      same true a h e = inr (sym e ∙ ap (λ n. slice_index_or chosen.values n None) (eqb-true w v h))
      same false a h e = inl refl

      by : (o : Option Value) → slice_index_or chosen.values w None ≡ o
          → IsOf v (value_given (map (given_of (Var w)) (option_to_list o)) v)
      by None e = inl refl
      by (Some a) e = same (w == v) a refl e

  own_value : (v : ℕ) → value_given (givens_if chosen (Some (Var v))) v ≡ slice_index_or chosen.values v None
  own_value v = by (slice_index_or chosen.values v None)
    where
      by : (o : Option Value) → value_given (map (given_of (Var v)) (option_to_list o)) v ≡ o
      by None = refl
      by (Some a) = ap (λ b. cond b (Some a) None) (eq-eqb v v refl)

  module _ (v : ℕ) where
    abbrev chosen_there : Option Value
    chosen_there = slice_index_or chosen.values v None

    value_at_slot : (i : ℕ) → IsOf v (value_given (givens_at plan chosen i) v)
    value_at_slot i =
        flat_among (λ gs. value_given gs v) (λ a b. or_value b a) None chosen_there refl (value_both v)
        (λ a. refl) or_none
        (or_twice chosen_there) (λ c. givens_if chosen (named_of plan i c)) (λ c. value_of_named v (named_of plan i c))
        (class_of plan i)

    value_back : v < length plan.vars → value_given (givens plan chosen) v ≡ chosen_there
    value_back low =
        let got = get_there plan.vars v (lt-ltb v (length plan.vars) low) in
        let x = got.0 in
        let there = and_parts (is_of plan.slots x.slot) (is_of plan.characteristics x.characteristic
        && is_of plan.domains x.domain) (all_get (var_there plan) plan.vars v x valid.vars_there got.1) in
        let slot : x.slot < length plan.slots = ltb-true x.slot (length plan.slots) there.0 in
        flat_gives (λ gs. value_given gs v) (λ a b. or_value b a) None chosen_there refl (value_both v)
        (λ a. refl) or_none
        (or_twice chosen_there) (givens_at plan chosen) value_at_slot x.slot
        (flat_gives (λ gs. value_given gs v) (λ a b. or_value b a) None chosen_there refl (value_both v)
        (λ a. refl) or_none
        (or_twice chosen_there) (λ c. givens_if chosen (named_of plan x.slot c))
        (λ c. value_of_named v (named_of plan x.slot c)) x.characteristic
        (ap (λ o. value_given (givens_if chosen o) v) (var_named plan valid v x got.1 slot) ∙ own_value v)
        (class_of plan x.slot) (class_has_var plan valid v x got.1 slot))
        (numbers_below (length plan.slots)) (range_has x.slot 0 (length plan.slots) (omega arith) (omega (arith, slot)))

  -- and of a set's text
  module _ (s t : ℕ) where
    abbrev held_there : Bool
    held_there = among_held (set_at chosen s) t

    text_of_named : (o : Option Named)
        → (list_any (is_given s t) (givens_if chosen o) ≡ false) ⊎
        (list_any (is_given s t) (givens_if chosen o) ≡ held_there)
    text_of_named None = inl refl
    text_of_named (Some (Var v)) = inl (var_gives_none s t v (values_of chosen (Var v)))
    text_of_named (Some (Set r)) = by (r == s) refl
      where
        by : (b : Bool) → (r == s) ≡ b → (list_any (is_given s t) (givens_if chosen (Some (Set r))) ≡ false)
            ⊎ (list_any (is_given s t) (givens_if chosen (Some (Set r))) ≡ held_there)
        by true h =
            inr (own_gives s t r h (held_texts (set_at chosen r))
            ∙ ap (λ n. among_held (set_at chosen n) t) (eqb-true r s h))
        by false h = inl (other_gives_none s t r h (held_texts (set_at chosen r)))

    text_at_slot : (i : ℕ) → (list_any (is_given s t) (givens_at plan chosen i) ≡ false)
        ⊎ (list_any (is_given s t) (givens_at plan chosen i) ≡ held_there)
    text_at_slot i =
        flat_among (list_any (is_given s t)) (λ a b. a || b) false held_there refl (any_both (is_given s t)) or_false
        (λ a. refl) (or_same held_there) (λ c. givens_if chosen (named_of plan i c))
        (λ c. text_of_named (named_of plan i c)) (class_of plan i)

    text_back : s < length plan.sets → list_any (is_given s t) (givens plan chosen) ≡ held_there
    text_back low =
        let got = get_there plan.sets s (lt-ltb s (length plan.sets) low) in
        let x = got.0 in
        let there = and_parts (is_of plan.slots x.slot) (is_of plan.characteristics x.characteristic
        && is_of plan.domains x.domain) (all_get (set_there plan) plan.sets s x valid.sets_there got.1) in
        let slot : x.slot < length plan.slots = ltb-true x.slot (length plan.slots) there.0 in
        flat_gives (list_any (is_given s t)) (λ a b. a || b) false held_there refl (any_both (is_given s t)) or_false
        (λ a. refl) (or_same held_there) (givens_at plan chosen) text_at_slot x.slot
        (flat_gives (list_any (is_given s t)) (λ a b. a || b) false held_there refl (any_both (is_given s t)) or_false
        (λ a. refl) (or_same held_there) (λ c. givens_if chosen (named_of plan x.slot c))
        (λ c. text_of_named (named_of plan x.slot c)) x.characteristic
        (ap (λ o. list_any (is_given s t) (givens_if chosen o)) (set_named_at plan valid s x got.1 slot)
        ∙ own_gives s t s (eq-eqb s s refl) (held_texts (set_at chosen s)))
        (class_of plan x.slot) (class_has_set plan valid s x got.1 slot))
        (numbers_below (length plan.slots)) (range_has x.slot 0 (length plan.slots) (omega arith) (omega (arith, slot)))

  agree_as : (f g : ℕ → Bool) → ((t : ℕ) → f t ≡ g t) → (xs : List SetText) → AllAgree g xs → AllAgree f xs
  agree_as f g same [] agree = tt
  agree_as f g same (x ∷ xs) agree = (same x.text ∙ agree.0, agree_as f g same xs agree.1)

  set_back : (s : ℕ) → s < length plan.sets
      → map (text_given (givens plan chosen) s) (texts_of plan s) ≡ set_at chosen s
  set_back s low =
      ap (map (text_given (givens plan chosen) s)) (sym (of.sets s))
      ∙ marks_back (λ t. list_any (is_given s t) (givens plan chosen)) (set_at chosen s)
      (agree_as (λ t. list_any (is_given s t) (givens plan chosen)) (among_held (set_at chosen s))
      (λ t. text_back s t low) (set_at chosen s)
      (all_agree (set_at chosen s) (ap (are_apart (λ m n. m == n)) (of.sets s) ∙ list_apart plan valid s)))

  values_back : map (value_given (givens plan chosen)) (numbers_below (length plan.vars)) ≡ chosen.values
  values_back =
      ap (λ n. map (value_given (givens plan chosen)) (range_with_len 0 n)) (sym of.values)
      ∙ numbered None (value_given (givens plan chosen)) chosen.values 0
      (λ v low. ap (value_given (givens plan chosen)) (omega arith)
      ∙ value_back v (subst (λ n. v < n) of.values low))

  pub chosen_back : length chosen.sets ≡ length plan.sets → chosen_by plan (givens plan chosen) ≡ chosen
  chosen_back sets =
      ap₂ (λ values sets. record { values = values; sets = sets }) values_back
      (ap (λ n. map (λ s. map (text_given (givens plan chosen) s) (texts_of plan s)) (range_with_len 0 n)) (sym sets)
      ∙ numbered [] (λ s. map (text_given (givens plan chosen) s) (texts_of plan s)) chosen.sets 0
      (λ s low. ap (λ r. map (text_given (givens plan chosen) r) (texts_of plan r)) (omega arith)
      ∙ set_back s (subst (λ n. s < n) sets low)))
