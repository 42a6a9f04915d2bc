-- What a saved text gives is what a session's user may choose.
use Rattle.std.proofs.Common.{◌≡◌, ℕ, zero, suc, ◌+◌, ◌<◌, Bool, true, false, cond, ◌&&◌, ◌||◌, List, [], ◌∷◌}
use Rattle.std.proofs.Common.{length, map, refl, sym, ap, ap₂, ◌∙◌, subst, arith, inl, inr, ◌⊎◌}
use Rattle.std.specs.Prelude.{◌==◌, Option, None, Some, Ok, Err, slice_index_or, option_to_list}
use Rattle.std.specs.List.{filter, list_all, list_any, range_with_len}
use Rattle.std.proofs.lemmas.Bool.{and_from, and_parts, eq-eqb, eqb-true}
use Rattle.serde_json.specs.Data.{Data}
use Rattle.vc_value.specs.declared.value.Value.{Value}
use Rattle.vc_plan.specs.declared.plans.Named.{Named}
use Rattle.vc_plan.specs.declared.plans.Named.TheVariants.{Set, Var}
use Rattle.vc_plan.specs.declared.plans.Plan.{Plan}
use Rattle.vc_plan.specs.Domains.{numbers_below, texts_of}
use Rattle.vc_plan.specs.Fitting.{may_have, may_have_if, may_hold}
use Rattle.vc_plan_users.specs.Choosing.{Chosen, held_texts, listed_at, none_chosen, users_of}
use Rattle.vc_plan_users.specs.declared.users.SetText.{SetText}
use Rattle.vc_session.specs.Edits.{may_be_given}
use Rattle.vc_session.specs.Sessions.{AreUsersOf, listed}
use Rattle.vc_desk_names.specs.Laws.{ListedMayBeGiven}
use Rattle.vc_desk_names.specs.Meant.{value_named}
use Rattle.vc_store_forms.specs.Forms.{Choice, Saved}
use Rattle.vc_store_forms.specs.Shapes.{saved_in}
use Rattle.vc_store.specs.declared.faults.SavedFault.TheVariants.{OtherModel, Shape, UnknownName}
use Rattle.vc_store.specs.Laws.{ReadMayBeChosen}
use Rattle.vc_store.specs.Meaning.{Given, chosen_by, given_if, meaning, meaning_at, meanings, named_by, or_value}
use Rattle.vc_store.specs.Meaning.{stands_twice}
use Rattle.vc_store.specs.Meaning.{text_given, value_given, var_value}
use Rattle.vc_store.specs.Reading.{are_known, is_of, json_in, read_form, read_json, read_shape}
use Rattle.vc_store.proofs.GivensLaws.{all_flat}
use Rattle.vc_store.proofs.MarkLaws.{none_for}
use Rattle.vc_store.proofs.ReturnLaws.{numbered}
use Rattle.vc_store.proofs.UsersLaws.{index_map, map_length}

all_true : {X : Type 0} (p : X → Bool) → ((x : X) → p x ≡ true) → (xs : List X) → list_all p xs ≡ true
all_true p each [] = refl
all_true p each (x ∷ xs) = and_from (p x) (list_all p xs) (each x) (all_true p each xs)

range_length : (a n : ℕ) → length (range_with_len a n) ≡ n
range_length a zero = refl
range_length a (suc n) = ap suc (range_length (a + 1) n)

-- what is looked up in a list that is made of numbers
mapped : {X : Type 0} (d : X) (f : ℕ → X) (k a n : ℕ)
    → (slice_index_or (map f (range_with_len a n)) k d ≡ d)
    ⊎ (slice_index_or (map f (range_with_len a n)) k d ≡ f (a + k))
mapped d f k a zero = inl refl
mapped d f zero a (suc n) = let here : a ≡ a + 0 = omega arith in inr (ap f here)
mapped d f (suc k) a (suc n) =
    let next : (a + 1) + k ≡ a + suc k = omega arith in
    elim (mapped d f k (a + 1) n) [
      | inl e ↦ inl e
      | inr e ↦ inr (e ∙ ap f next)
    ]

or_true : (b : Bool) → (b || true) ≡ true
or_true true = refl
or_true false = refl

-- texts of a list are of the list
each_listed : (all ts : List ℕ)
    → ((t : ℕ) → list_any (λ d. d == t) ts ≡ true → list_any (λ d. d == t) all ≡ true)
    → list_all (λ t. list_any (λ d. d == t) all) ts ≡ true
each_listed all [] within = refl
each_listed all (t ∷ ts) within =
    and_from (list_any (λ d. d == t) all) (list_all (λ u. list_any (λ d. d == u) all) ts)
    (within t (ap (λ b. b || list_any (λ d. d == t) ts) (eq-eqb t t refl)))
    (each_listed all ts (λ u h. within u (ap (λ b. (t == u) || b) h ∙ or_true (t == u))))

held_within : (q f : ℕ → Bool) (ts : List ℕ) → list_all q ts ≡ true
    → list_all q (held_texts (map (λ t. record { text = t; held = f t }) ts)) ≡ true
held_within q f [] h = refl
held_within q f (t ∷ ts) h = by (held_within q f ts (and_parts (q t) (list_all q ts) h).1) (f t)
  where
    rest : List SetText
    rest = filter (λ x. x.held) (map (λ t. record { text = t; held = f t }) ts)

    by : list_all q (map (λ x. x.text) rest) ≡ true → (b : Bool)
        → list_all q (map (λ x. x.text) (cond b (record { text = t; held = f t } ∷ rest) rest)) ≡ true
    by later true = and_from (q t) (list_all q (map (λ x. x.text) rest)) (and_parts (q t) (list_all q ts) h).0 later
    by later false = later

given_texts : (gs : List Given) (s : ℕ) (ts : List ℕ) → listed (map (text_given gs s) ts) ≡ ts
given_texts gs s [] = refl
given_texts gs s (t ∷ ts) = ap (λ us. t ∷ us) (given_texts gs s ts)

module _ (plan : Plan) where
  abbrev may_give : Given → Bool
  may_give g = may_be_given plan g.named g.value

  -- each value that is meant may be given
  meant_may : ListedMayBeGiven → (choice : Choice) → list_all may_give (option_to_list (meaning plan choice)) ≡ true
  meant_may listed choice = by (named_by plan choice)
    where
      at_value : (named : Named) (o : Option Value) → value_named plan named choice.value ≡ o
          → list_all may_give (option_to_list (given_if named o)) ≡ true
      at_value named None e = refl
      at_value named (Some a) e = ap (λ b. b && true) (listed plan named choice.value a e)

      by : (o : Option Named) → list_all may_give (option_to_list (meaning_at plan choice.value o)) ≡ true
      by None = refl
      by (Some named) = at_value named (value_named plan named choice.value) refl

  all_may_give : ListedMayBeGiven → (choices : List Choice) → list_all may_give (meanings plan choices) ≡ true
  all_may_give listed choices =
      all_flat may_give (λ choice. option_to_list (meaning plan choice)) (meant_may listed) choices

  -- so may the value of each variable
  value_may : (gs : List Given) → list_all may_give gs ≡ true → (v : ℕ) → may_have_if plan v (value_given gs v) ≡ true
  value_may [] h v = refl
  value_may (g ∷ gs) h v = by (value_given gs v) (value_may gs parts.1 v)
    where
      parts : (may_give g ≡ true) × (list_all may_give gs ≡ true)
      parts = and_parts (may_give g) (list_all may_give gs) h

      at_var : (w : ℕ) (a : Value) → may_have plan w a ≡ true → (b : Bool) → (w == v) ≡ b
          → may_have_if plan v (cond b (Some a) None) ≡ true
      at_var w a may true e = ap (λ u. may_have plan u a) (sym (eqb-true w v e)) ∙ may
      at_var w a may false e = refl

      first : (named : Named) (a : Value) → may_be_given plan named a ≡ true
          → may_have_if plan v (var_value v named a) ≡ true
      first (Var w) a may = at_var w a may (w == v) refl
      first (Set s) a may = refl

      by : (o : Option Value) → may_have_if plan v o ≡ true
          → may_have_if plan v (or_value o (var_value v g.named g.value)) ≡ true
      by None later = first g.named g.value parts.0
      by (Some a) later = later

  module _ (gs : List Given) where
    abbrev texts_at : ℕ → List SetText
    texts_at s = map (text_given gs s) (texts_of plan s)

    told_texts : (sets : List ℕ) → map listed (map texts_at sets) ≡ map (texts_of plan) sets
    told_texts [] = refl
    told_texts (s ∷ sets) = ap₂ (λ x xs. x ∷ xs) (given_texts gs s (texts_of plan s)) (told_texts sets)

    abbrev lists : List (List ℕ)
    lists = map listed (none_chosen plan).sets

    lists_counted : length lists ≡ length plan.sets
    lists_counted = map_length listed (none_chosen plan).sets ∙ map_length (listed_at plan) plan.sets

    sets_told : map listed (chosen_by plan gs).sets ≡ lists
    sets_told =
        told_texts (numbers_below (length plan.sets))
        ∙ ap (λ n. map (texts_of plan) (range_with_len 0 n)) (sym lists_counted)
        ∙ numbered [] (texts_of plan) lists 0 at
      where
        at : (k : ℕ) → k < length lists → texts_of plan (0 + k) ≡ slice_index_or lists k []
        at k low =
            let plain : 0 + k ≡ k = omega arith in
            ap (texts_of plan) plain ∙ sym ((none_for plan).sets k) ∙ sym
            (index_map listed refl (none_chosen plan).sets k)

    values_fit : list_all may_give gs ≡ true → (v : ℕ)
        → may_have_if plan v (slice_index_or (chosen_by plan gs).values v None) ≡ true
    values_fit may v =
        let plain : 0 + v ≡ v = omega arith in
        elim (mapped None (value_given gs) v 0 (length plan.vars)) [
          | inl e ↦ ap (may_have_if plan v) e
          | inr e ↦ ap (may_have_if plan v) (e ∙ ap (value_given gs) plain) ∙ value_may gs may v
        ]

    texts_fit : (s : ℕ) → may_hold plan s (slice_index_or (users_of (chosen_by plan gs)).texts s []) ≡ true
    texts_fit s =
        let plain : 0 + s ≡ s = omega arith in
        ap (may_hold plan s) (index_map held_texts refl (chosen_by plan gs).sets s)
        ∙ elim (mapped [] texts_at s 0 (length plan.sets)) [
          | inl e ↦ ap (λ xs. may_hold plan s (held_texts xs)) e
          | inr e ↦ ap (λ xs. may_hold plan s (held_texts xs)) (e ∙ ap texts_at plain)
              ∙ held_within (λ t. list_any (λ d. d == t) (texts_of plan s)) (λ t. (text_given gs s t).held)
              (texts_of plan s) (each_listed (texts_of plan s) (texts_of plan s) (λ t h. h))
        ]

    chosen_for : list_all may_give gs ≡ true → AreUsersOf plan (chosen_by plan gs)
    chosen_for may = record {
      values =
          map_length (value_given gs) (numbers_below (length plan.vars)) ∙ range_length 0 (length plan.vars);
      sets = sets_told;
      fit =
          and_from
          (list_all (λ v. may_have_if plan v (slice_index_or (chosen_by plan gs).values v None))
          (numbers_below (length (chosen_by plan gs).values)))
          (list_all (λ s. may_hold plan s (slice_index_or (users_of (chosen_by plan gs)).texts s []))
          (numbers_below (length (users_of (chosen_by plan gs)).texts)))
          (all_true (λ v. may_have_if plan v (slice_index_or (chosen_by plan gs).values v None)) (values_fit may)
          (numbers_below (length (chosen_by plan gs).values)))
          (all_true (λ s. may_hold plan s (slice_index_or (users_of (chosen_by plan gs)).texts s [])) texts_fit
          (numbers_below (length (users_of (chosen_by plan gs)).texts)));
    }

  -- and so is all that a text gives
  module _ (listed : ListedMayBeGiven) (chosen : Chosen) where
    only_known : (twice same known : Bool) (x : Chosen)
        → cond twice (Err Shape) (cond same (cond known (Ok x) (Err UnknownName)) (Err OtherModel)) ≡ Ok chosen
        → x ≡ chosen
    only_known true same known x e = absurd (cc)
    only_known false false known x e = absurd (cc)
    only_known false true false x e = absurd (cc)
    only_known false true true x e = cc

    of_form : (saved : Saved) → read_form plan saved ≡ Ok chosen → AreUsersOf plan chosen
    of_form saved e =
        subst (AreUsersOf plan)
        (only_known (stands_twice plan saved.choices) (is_of plan saved) (are_known plan saved.choices)
        (chosen_by plan (meanings plan saved.choices)) e)
        (chosen_for (meanings plan saved.choices) (all_may_give listed saved.choices))

    of_shape : (o : Option Saved) → read_shape plan o ≡ Ok chosen → AreUsersOf plan chosen
    of_shape None e = absurd (cc)
    of_shape (Some saved) e = of_form saved e

    of_json : (o : Option Data) → read_json plan o ≡ Ok chosen → AreUsersOf plan chosen
    of_json None e = absurd (cc)
    of_json (Some json) e = of_shape (saved_in json) e

pub read_may_be_chosen : ListedMayBeGiven → ReadMayBeChosen
read_may_be_chosen listed plan text chosen e = of_json plan listed chosen (json_in text) e
