-- A saved text gives back what was saved.
use Rattle.std.proofs.Common.{◌≡◌, ℕ, zero, suc, ◌+◌, ◌<◌, ◌≤◌, ◌^◌, true, false, cond, not, List, [], ◌∷◌, ◌++◌}
use Rattle.std.proofs.Common.{length, map, refl, ap, ◌∙◌, arith, IsUtf8}
use Rattle.std.specs.Prelude.{◌==◌, Option, None, Some, Ok, nat_lt, slice_get}
use Rattle.std.specs.List.{flat_map, range_with_len}
use Rattle.std.proofs.lemmas.Bool.{and_from, and_parts, eq-eqb, leb-true, ltb-true}
use Rattle.std.proofs.lemmas.Str.{is_utf8-from_IsUtf8}
use Rattle.serde_json.specs.Read.{read}
use Rattle.vc_value.specs.declared.value.Value.{Value}
use Rattle.vc_value.specs.declared.value.Value.TheVariants.{Num, Text}
use Rattle.vc_value.specs.Words.{same_bytes}
use Rattle.vc_plan.specs.declared.plans.Named.{Named}
use Rattle.vc_plan.specs.declared.plans.Named.TheVariants.{Set, Var}
use Rattle.vc_plan.specs.declared.plans.Plan.{Plan}
use Rattle.vc_plan.specs.declared.plans.TextSet.{TextSet}
use Rattle.vc_plan.specs.declared.plans.Var.{Var as Variable}
use Rattle.vc_plan.specs.Domains.{numbers_below}
use Rattle.vc_plan.specs.Orders.{are_apart}
use Rattle.vc_plan.specs.Valid.{IsValid}
use Rattle.vc_plan_users.specs.Choosing.{Chosen}
use Rattle.vc_session.specs.Sessions.{AreUsersOf}
use Rattle.vc_show_rows.specs.Rows.{class_of, named_of}
use Rattle.vc_show_rows.specs.Texts.{name_of}
use Rattle.vc_store_forms.proofs.AsciiLaws.{plain_utf8}
use Rattle.vc_store_forms.specs.Forms.{Choice, saved_data}
use Rattle.vc_store_forms.specs.Laws.{AreSmall, AreUtf8, FormIsRead, FormIsUtf8}
use Rattle.vc_store.specs.Laws.{SavedIsRead}
use Rattle.vc_store.specs.Meaning.{chosen_by, meanings, same_place, stands_twice}
use Rattle.vc_store.specs.Reading.{is_of, json_in, read_form, read_json, read_known, read_saved, read_shape}
use Rattle.vc_store.specs.Saving.{choice_of, choices_at, choices_of, plain_text, saved_of, saved_text, values_of}
use Rattle.vc_store.proofs.ApartLaws.{places_apart}
use Rattle.vc_store.proofs.GivensLaws.{all_known, all_mean, all_stand}
use Rattle.vc_store.proofs.ReadingLaws.{form_known}
use Rattle.vc_store.proofs.ReturnLaws.{chosen_back}
use Rattle.vc_store.proofs.UsersLaws.{all_may, for_users, sets_counted}
use Rattle.vc_store.proofs.WordLaws.{characteristic_utf8, number_utf8, text_utf8, upper_name_utf8}

-- the numbers are small
small_both : (xs ys : List Choice) → AreSmall xs → AreSmall ys → AreSmall (xs ++ ys)
small_both [] ys a b = b
small_both (x ∷ xs) ys a b = (a.0, small_both xs ys a.1 b)

utf8_both : (xs ys : List Choice) → AreUtf8 xs → AreUtf8 ys → AreUtf8 (xs ++ ys)
utf8_both [] ys a b = b
utf8_both (x ∷ xs) ys a b = (a.0, utf8_both xs ys a.1 b)

same_itself : (word : List ℕ) → same_bytes word word ≡ true
same_itself [] = refl
same_itself (b ∷ word) = and_from (b == b) (same_bytes word word) (eq-eqb b b refl) (same_itself word)

module _ (plan : Plan) (chosen : Chosen) where
  small_values : (i : ℕ) (named : Named) → i < 2 ^ 64 → (values : List Value)
      → AreSmall (map (choice_of plan i named) values)
  small_values i named low [] = tt
  small_values i named low (a ∷ values) = (low, small_values i named low values)

  small_named : (i : ℕ) → i < 2 ^ 64 → (o : Option Named) → AreSmall (choices_of plan chosen i o)
  small_named i low None = tt
  small_named i low (Some named) = small_values i named low (values_of chosen named)

  small_slot : (i : ℕ) → i < 2 ^ 64 → (class : List ℕ)
      → AreSmall (flat_map (λ c. choices_of plan chosen i (named_of plan i c)) class)
  small_slot i low [] = tt
  small_slot i low (c ∷ class) =
      small_both (choices_of plan chosen i (named_of plan i c))
      (flat_map (λ c. choices_of plan chosen i (named_of plan i c)) class)
      (small_named i low (named_of plan i c)) (small_slot i low class)

  small_slots : (a n : ℕ) → a + n ≤ 2 ^ 64 → AreSmall (flat_map (choices_at plan chosen) (range_with_len a n))
  small_slots a zero low = tt
  small_slots a (suc n) low =
      small_both (choices_at plan chosen a) (flat_map (choices_at plan chosen) (range_with_len (a + 1) n))
      (small_slot a (omega (arith, low)) (class_of plan a)) (small_slots (a + 1) n (omega (arith, low)))

  module _ (valid : IsValid plan) where
    name_utf8 : (named : Named) → IsUtf8 (name_of plan named)
    name_utf8 (Var v) = by (slice_get plan.vars v) refl
      where
        by : (o : Option Variable) → slice_get plan.vars v ≡ o → IsUtf8 (name_of plan (Var v))
        by None e = rw e (plain_utf8 [] refl)
        by (Some x) e = rw e (characteristic_utf8 plan x.characteristic valid)
    name_utf8 (Set s) = by (slice_get plan.sets s) refl
      where
        by : (o : Option TextSet) → slice_get plan.sets s ≡ o → IsUtf8 (name_of plan (Set s))
        by None e = rw e (plain_utf8 [] refl)
        by (Some x) e = rw e (characteristic_utf8 plan x.characteristic valid)

    value_utf8 : (a : Value) → IsUtf8 (plain_text plan a)
    value_utf8 (Text t) = text_utf8 plan t valid
    value_utf8 (Num a) = number_utf8 a

    utf8_values : (i : ℕ) (named : Named) (values : List Value) → AreUtf8 (map (choice_of plan i named) values)
    utf8_values i named [] = tt
    utf8_values i named (a ∷ values) = ((name_utf8 named, value_utf8 a), utf8_values i named values)

    utf8_named : (i : ℕ) (o : Option Named) → AreUtf8 (choices_of plan chosen i o)
    utf8_named i None = tt
    utf8_named i (Some named) = utf8_values i named (values_of chosen named)

    utf8_slot : (i : ℕ) (class : List ℕ) → AreUtf8 (flat_map (λ c. choices_of plan chosen i (named_of plan i c)) class)
    utf8_slot i [] = tt
    utf8_slot i (c ∷ class) =
        utf8_both (choices_of plan chosen i (named_of plan i c))
        (flat_map (λ c. choices_of plan chosen i (named_of plan i c)) class)
        (utf8_named i (named_of plan i c)) (utf8_slot i class)

    utf8_slots : (slots : List ℕ) → AreUtf8 (flat_map (choices_at plan chosen) slots)
    utf8_slots [] = tt
    utf8_slots (i ∷ slots) =
        utf8_both (choices_at plan chosen i) (flat_map (choices_at plan chosen) slots) (utf8_slot i (class_of plan i))
        (utf8_slots slots)

-- the form is read as what was chosen
module _ (plan : Plan) (valid : IsValid plan) (chosen : Chosen) (users : AreUsersOf plan chosen) where
  once : stands_twice plan (saved_of plan chosen).choices ≡ false
  once =
      ap (λ ps. not (are_apart same_place ps)) (all_stand plan valid chosen (all_may plan chosen users))
      ∙ ap not (places_apart plan valid chosen (for_users plan chosen users))

  same_model : is_of plan (saved_of plan chosen) ≡ true
  same_model =
      and_from (same_bytes plan.name plan.name) (plan.version == plan.version) (same_itself plan.name)
      (eq-eqb plan.version plan.version refl)

  known_back : read_known plan (saved_of plan chosen) ≡ Ok
      (chosen_by plan (meanings plan (saved_of plan chosen).choices))
  known_back = rw (all_known plan valid chosen (all_may plan chosen users)) refl

  pub form_back : read_form plan (saved_of plan chosen) ≡ Ok chosen
  form_back =
      form_known plan (saved_of plan chosen) once same_model ∙ known_back
      ∙ ap (λ gs. Ok (chosen_by plan gs)) (all_mean plan valid chosen (all_may plan chosen users))
      ∙ ap Ok (chosen_back plan valid chosen (for_users plan chosen users) (sets_counted plan chosen users))

  module _ (is_read : FormIsRead) (is_utf8_text : FormIsUtf8) where
    version_small : plan.version < 2 ^ 64
    version_small =
        let low : plan.version < 1000000 =
        ltb-true plan.version 1000000
        (and_parts (nat_lt 0 plan.version) (nat_lt plan.version 1000000) valid.version).1 in
        omega (arith, low)

    choices_small : AreSmall (saved_of plan chosen).choices
    choices_small =
        let few : length plan.slots ≤ 40 = leb-true (length plan.slots) 40 valid.slot_limit in
        small_slots plan chosen 0 (length plan.slots) (omega (arith, few))

    text_is_utf8 : IsUtf8 (saved_text plan chosen)
    text_is_utf8 =
        is_utf8_text (saved_of plan chosen) (upper_name_utf8 plan.name valid.name)
        (utf8_slots plan chosen valid (numbers_below (length plan.slots)))

    pub saved_back : read_saved plan (saved_text plan chosen) ≡ Ok chosen
    saved_back =
        let back = is_read (saved_of plan chosen) version_small choices_small in
        let json : json_in (saved_text plan chosen) ≡ Some (saved_data (saved_of plan chosen)) =
        ap (λ b. cond b (read (saved_text plan chosen)) None)
        (is_utf8-from_IsUtf8 (saved_text plan chosen) text_is_utf8)
        ∙ back.0 in
        ap (read_json plan) json ∙ ap (read_shape plan) back.1 ∙ form_back

pub saved_is_read : FormIsRead → FormIsUtf8 → SavedIsRead
saved_is_read is_read is_utf8_text plan chosen valid users = saved_back plan valid chosen users is_read is_utf8_text
