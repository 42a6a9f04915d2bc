-- What a session's user chose may be saved: all of it is of the plan.
use Rattle.std.proofs.Common.{◌≡◌, ℕ, zero, suc, ◌+◌, ◌<◌, ◌≤◌, Bool, true, List, [], ◌∷◌}
use Rattle.std.proofs.Common.{length, map, refl, sym, ap, ◌∙◌, arith, inl, inr, ◌⊎◌}
use Rattle.std.specs.Prelude.{◌==◌, Option, None, Some, slice_index_or, option_to_list}
use Rattle.std.specs.List.{list_all, list_any}
use Rattle.std.proofs.lemmas.Bool.{and_parts}
use Rattle.vc_value.specs.declared.value.Value.{Value}
use Rattle.vc_value.specs.declared.value.Value.TheVariants.{Text}
use Rattle.vc_plan.specs.declared.plans.Named.{Named}
use Rattle.vc_plan.specs.declared.plans.Named.TheVariants.{Set, Var}
use Rattle.vc_plan.specs.declared.plans.Plan.{Plan}
use Rattle.vc_plan.specs.Domains.{numbers_below, texts_of}
use Rattle.vc_plan.specs.Fitting.{may_have_if, may_hold}
use Rattle.vc_plan_users.specs.Choosing.{Chosen, held_texts, listed_at, none_chosen, set_at, users_of}
use Rattle.vc_session.specs.Sessions.{AreUsersOf, listed}
use Rattle.vc_show.proofs.FittingLaws.{each_below}
use Rattle.vc_store.specs.Marking.{AreFor}
use Rattle.vc_store.specs.Saving.{values_of}
use Rattle.vc_store.proofs.GivensLaws.{AllMay}
use Rattle.vc_store.proofs.MarkLaws.{none_for}

-- a list of a list of lists, where each is told by a function
pub index_map : {X Y : Type 0} (f : List X → List Y) → f [] ≡ [] → (xss : List (List X)) (s : ℕ)
    → slice_index_or (map f xss) s [] ≡ f (slice_index_or xss s [])
index_map f none [] s = sym none
index_map f none (xs ∷ xss) zero = refl
index_map f none (xs ∷ xss) (suc s) = index_map f none xss s

pub map_length : {X Y : Type 0} (f : X → Y) (xs : List X) → length (map f xs) ≡ length xs
map_length f [] = refl
map_length f (x ∷ xs) = ap suc (map_length f xs)

some_low : (xs : List (Option Value)) (v : ℕ) (a : Value) → slice_index_or xs v None ≡ Some a → v < length xs
some_low [] v a e = absurd (cc)
some_low (x ∷ xs) zero a e = omega arith
some_low (x ∷ xs) (suc v) a e = omega (arith, some_low xs v a e)

-- every element of a list passes that all numbers below its length pass
each_index : {X : Type 0} (p : ℕ → List X → Bool) (xss : List (List X)) → ((s : ℕ) → p s [] ≡ true)
    → list_all (λ s. p s (slice_index_or xss s [])) (numbers_below (length xss)) ≡ true
    → (s : ℕ) → p s (slice_index_or xss s []) ≡ true
each_index p xss none all s = by s (low_or_past s (length xss))
  where
    low_or_past : (s n : ℕ) → (s < n) ⊎ (n ≤ s)
    low_or_past s zero = inr (omega arith)
    low_or_past zero (suc n) = inl (omega arith)
    low_or_past (suc s) (suc n) = elim (low_or_past s n) [
      | inl low ↦ inl (omega (arith, low))
      | inr past ↦ inr (omega (arith, past))
    ]

    index_past : {X : Type 0} (xss : List (List X)) (s : ℕ) → length xss ≤ s → slice_index_or xss s [] ≡ []
    index_past [] s past = refl
    index_past (xs ∷ xss) zero past = absurd (omega (arith, past))
    index_past (xs ∷ xss) (suc s) past = index_past xss s (omega (arith, past))

    by : (s : ℕ) → (s < length xss) ⊎ (length xss ≤ s) → p s (slice_index_or xss s []) ≡ true
    by s (inl low) =
        let plain : s ≡ 0 + s = omega arith in
        ap (λ r. p r (slice_index_or xss r [])) plain
        ∙ each_below (λ s. p s (slice_index_or xss s [])) 0 (length xss) s all low
    by s (inr past) = ap (p s) (index_past xss s past) ∙ none s

module _ (plan : Plan) (chosen : Chosen) (users : AreUsersOf plan chosen) where
  pub for_users : AreFor plan chosen
  for_users = record {
    values = users.values;
    sets = λ s.
        sym (index_map listed refl chosen.sets s) ∙ ap (λ xss. slice_index_or xss s []) users.sets
        ∙ index_map listed refl (none_chosen plan).sets s ∙ (none_for plan).sets s;
  }

  pub sets_counted : length chosen.sets ≡ length plan.sets
  sets_counted =
      sym (map_length listed chosen.sets) ∙ ap length users.sets ∙ map_length listed (none_chosen plan).sets
      ∙ map_length (listed_at plan) plan.sets

  fitting : (list_all (λ v. may_have_if plan v (slice_index_or chosen.values v None))
      (numbers_below (length chosen.values)) ≡ true)
      × (list_all (λ s. may_hold plan s (slice_index_or (users_of chosen).texts s []))
      (numbers_below (length (users_of chosen).texts)) ≡ true)
  fitting =
      and_parts
      (list_all (λ v. may_have_if plan v (slice_index_or chosen.values v None)) (numbers_below (length chosen.values)))
      (list_all (λ s. may_hold plan s (slice_index_or (users_of chosen).texts s []))
      (numbers_below (length (users_of chosen).texts))) users.fit

  texts_may : (s : ℕ) (us : List ℕ) → may_hold plan s us ≡ true → AllMay plan (Set s) (map Text us)
  texts_may s [] h = tt
  texts_may s (u ∷ us) h =
      let parts = and_parts (list_any (λ listed. listed == u) (texts_of plan s)) (may_hold plan s us) h in
      (parts.0, texts_may s us parts.1)

  pub all_may : (named : Named) → AllMay plan named (values_of chosen named)
  all_may (Var v) = by (slice_index_or chosen.values v None) refl
    where
      by : (o : Option Value) → slice_index_or chosen.values v None ≡ o → AllMay plan (Var v) (option_to_list o)
      by None e = tt
      by (Some a) e =
          let plain : v ≡ 0 + v = omega arith in (
            sym (ap (may_have_if plan v) e) ∙ ap (λ w. may_have_if plan w (slice_index_or chosen.values w None)) plain
                ∙ each_below (λ w. may_have_if plan w (slice_index_or chosen.values w None)) 0 (length chosen.values) v
                fitting.0
                (some_low chosen.values v a e),
            tt,
          )
  all_may (Set s) =
      texts_may s (held_texts (set_at chosen s))
      (ap (may_hold plan s) (sym (index_map held_texts refl chosen.sets s))
      ∙ each_index (may_hold plan) (users_of chosen).texts (λ r. refl) fitting.1 s)
