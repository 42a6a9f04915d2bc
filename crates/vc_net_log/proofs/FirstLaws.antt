-- The first fact whose source differs is the least at the places of the variables for which sources may differ.
use Rattle.std.proofs.Common.{◌≡◌, ℕ, ◌≤◌, Bool, true, false, not, List, [], ◌∷◌, length, get_or, refl, sym, ◌∙◌}
use Rattle.std.proofs.Common.{ap, inl, inr, arith, min}
use Rattle.std.specs.Prelude.{Option, None, Some, if◌then◌else◌, nat_eq, option_map, position, slice_get}
use Rattle.std.specs.List.{IsDistinct, position_or_len}
use Rattle.std.proofs.lemmas.Bool.{cases_lt}
use Rattle.std.proofs.lemmas.List.Sums.{fails_before_first, passes_at_first, prefix_len-le-length}
use Rattle.std.proofs.lemmas.Option.{get_or_from_slice_get, slice_get-get_or, slice_get-map}
use Rattle.vc_base.specs.Sets.{has}
use Rattle.vc_base.proofs.ListLaws.{number_exact, number_itself}
use Rattle.vc_base.proofs.SetLaws.{both, has_cases, told}
use Rattle.vc_plan.specs.declared.atoms.Atom.{Atom}
use Rattle.vc_plan.specs.declared.atoms.Atom.TheVariants.{Here, Out, Is}
use Rattle.vc_plan.specs.declared.atoms.Origin.{Origin}
use Rattle.vc_plan.specs.declared.atoms.Origin.TheVariants.{Rule, User, Written}
use Rattle.vc_plan.specs.Sources.{Sources}
use Rattle.vc_plan_reasons.specs.Checking.{var_of}
use Rattle.vc_plan_reasons.specs.Keeping.{origin_differs}
use Rattle.vc_net_places.specs.Places.{Index, first_in, place_in}
use Rattle.vc_net_standing.specs.declared.standing.Fact.{Fact}
use Rattle.vc_net_standing.specs.Standing.{places_of}
use Rattle.vc_net_log.specs.Differing.{SameBeside, are_givable, gone_at, gone_number, least_gone, may_give}
use Rattle.vc_net_log.specs.Differing.{number_if_gone}
use Rattle.vc_net_log.specs.Staying.{differs}
use Rattle.vc_net_log.proofs.LeftLaws.{all_get}
use Rattle.vc_net_log.proofs.SourceLaws.{entry_stays, user_stays}
use Rattle.vc_net_log.proofs.StayLaws.{one_place}

-- the first that passes is among all, and none that passes is before it
pub first_few : {X : Type 0} (p : X → Bool) (xs : List X) → position_or_len p xs ≤ length xs
first_few p xs = prefix_len-le-length (λ x. not (p x)) xs

first_least : {X : Type 0} (p : X → Bool) (xs : List X) (n : ℕ) (x : X) → slice_get xs n ≡ Some x → p x ≡ true
    → position_or_len p xs ≤ n
first_least p xs n x e h =
    elim (cases_lt n (position_or_len p xs)) [
      | inl before ↦ absurd
          (both h (ap p (sym (get_or_from_slice_get xs n x x e)) ∙ fails_before_first p xs n x before))
      | inr later ↦ later
    ]

module _ (index : Index) (gone : Fact → Bool) (facts : List Fact) where
  abbrev first : ℕ
  first = position_or_len gone facts

  -- the first is no later than what a variable's place tells
  least_number : (n : ℕ) (o : Option Fact) → slice_get facts n ≡ o → first ≤ number_if_gone gone (length facts) n o
  least_number n None e = first_few gone facts
  least_number n (Some fact) e = by (gone fact) refl
    where
      by : (b : Bool) → gone fact ≡ b → first ≤ (if b then n else length facts)
      by true h = first_least gone facts n fact e h
      by false h = first_few gone facts

  least_at : (o : Option ℕ) → first ≤ gone_number gone facts o
  least_at None = first_few gone facts
  least_at (Some n) = least_number n (slice_get facts n) refl

  least_of_all : (n : ℕ) (vars : List ℕ) → first ≤ n → first ≤ least_gone index gone facts n vars
  least_of_all n [] h = h
  least_of_all n (v ∷ vars) h =
      let one = least_at (position (nat_eq (first_in index v)) (places_of index facts)) in
      least_of_all (min n (gone_at index gone facts v)) vars (omega (arith, one, h))

  least_falls : (n : ℕ) (vars : List ℕ) → least_gone index gone facts n vars ≤ n
  least_falls n [] = omega arith
  least_falls n (v ∷ vars) =
      let rest = least_falls (min n (gone_at index gone facts v)) vars in omega (arith, rest)

  -- and a variable whose place it is at tells it
  module _ (once : IsDistinct nat_eq (places_of index facts)) (fact : Fact) (there : slice_get facts first ≡ Some fact)
      (goes : gone fact ≡ true) (v : ℕ) (placed : place_in index fact.atom ≡ first_in index v) where
    place_there : slice_get (places_of index facts) first ≡ Some (first_in index v)
    place_there =
        slice_get-map (λ (f : Fact). place_in index f.atom) facts first
        ∙ (ap (option_map (λ (f : Fact). place_in index f.atom)) there ∙ ap Some placed)

    told_at : gone_at index gone facts v ≡ first
    told_at =
        ap (gone_number gone facts) (one_place (places_of index facts) first (first_in index v) once place_there)
        ∙ (ap (number_if_gone gone (length facts) first) there ∙ ap (λ b. if b then first else length facts) goes)

    least_there : (n : ℕ) (vars : List ℕ) → has nat_eq vars v ≡ true → least_gone index gone facts n vars ≤ first
    least_there n [] h = absurd (cc)
    least_there n (u ∷ vars) h =
        elim (has_cases nat_eq number_exact number_itself u vars v h) [
          | inl is ↦
              let own : gone_at index gone facts u ≡ first = ap (gone_at index gone facts) (sym is) ∙ told_at in
              let rest = least_falls (min n (gone_at index gone facts u)) vars in
              omega (arith, own, rest)
          | inr later ↦ least_there (min n (gone_at index gone facts u)) vars later
        ]

-- what is read past the end
nobody : Fact
nobody = record { atom = Here 0; origin = Rule 0 }

module _ (index : Index) (facts : List Fact) (old new : Sources) (touched written : List ℕ)
    (once : IsDistinct nat_eq (places_of index facts)) (givable : are_givable facts ≡ true)
    (users : SameBeside touched old.user new.user) (entries : SameBeside written old.written new.written) where
  abbrev gone : Fact → Bool
  gone = differs old new

  abbrev number : ℕ
  number = position_or_len gone facts

  abbrev by_users : ℕ
  by_users = least_gone index gone facts (length facts) touched

  abbrev by_both : ℕ
  by_both = least_gone index gone facts by_users written

  -- a fact that is gone is the value of a variable for which sources may differ
  reached : (fact : Fact) → slice_get facts number ≡ Some fact → gone fact ≡ true → by_both ≤ number
  reached fact there goes =
      by fact.origin fact.atom refl goes
      (all_get (λ (f : Fact). may_give f.origin f.atom) facts number fact givable there)
    where
      by : (origin : Origin) (atom : Atom) → fact.atom ≡ atom → origin_differs old new origin (var_of atom) ≡ true
          → may_give origin atom ≡ true → by_both ≤ number
      by (Rule r) atom is d may = absurd (cc)
      by User (Here i) is d may = absurd (cc)
      by User (Out v g) is d may = absurd (cc)
      by User (Is v a) is d may =
          elim (told (has nat_eq touched v)) [
            | inl among ↦
                let one = least_there index gone facts once fact there goes v (ap (place_in index) is) (length facts)
                touched among in
                let rest = least_falls index gone facts by_users written in
                omega (arith, one, rest)
            | inr none ↦ absurd (both d (user_stays old new v (users v none)))
          ]
      by (Written procedure statement) (Here i) is d may = absurd (cc)
      by (Written procedure statement) (Out v g) is d may = absurd (cc)
      by (Written procedure statement) (Is v a) is d may =
          elim (told (has nat_eq written v)) [
            | inl among ↦
                least_there index gone facts once fact there goes v (ap (place_in index) is) by_users written among
            | inr none ↦ absurd (both d (entry_stays old new v (entries v none)))
          ]

  pub first_by_variables : by_both ≡ number
  first_by_variables =
      let least = least_of_all index gone facts by_users written
      (least_of_all index gone facts (length facts) touched (first_few gone facts)) in
      let one = least_falls index gone facts (length facts) touched in
      let other = least_falls index gone facts by_users written in
      elim (cases_lt number (length facts)) [
        | inl low ↦
            let h = reached (get_or facts number nobody) (slice_get-get_or facts number nobody low)
            (passes_at_first gone facts nobody low) in
            omega (arith, least, h)
        | inr past ↦ omega (arith, least, one, other, past)
      ]
