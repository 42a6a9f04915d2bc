-- What is kept of steps is what the least set of dropped steps leaves.
use Rattle.std.proofs.Common.{◌≡◌, ℕ, zero, suc, ◌<◌, Bool, true, false, cond, ◌||◌, List, [], ◌∷◌, ◌++◌, length, map}
use Rattle.std.proofs.Common.{refl, sym, ◌∙◌, ap, inl, inr, arith, append_assoc, append-nil, length-append}
use Rattle.std.specs.Prelude.{Option, None, Some, nat_lt, slice_get}
use Rattle.std.specs.List.{list_all, list_any}
use Rattle.std.proofs.lemmas.Bool.{and_parts, or_cases, or_right, or_left, ltb-true}
use Rattle.vc_base.specs.Chains.{StepForm, before_all, cites_earlier}
use Rattle.vc_base.specs.Kept.{kept_number, new_numbers, new_premises, with_step, number_for, count_with, kept}
use Rattle.vc_base.specs.Kept.{has_step, is_to_drop, IsDropping, number_left, without, IsLeft}
use Rattle.vc_base.proofs.ChainLaws.{all_there}
use Rattle.vc_base.proofs.KeptLaws.{get_cases, not_gone}

-- whether a step was dropped: it has its place among all, and no new number
abbrev is_unnumbered : Option (Option ℕ) → Bool
is_unnumbered None = false
is_unnumbered (Some None) = true
is_unnumbered (Some (Some n)) = false

abbrev dropped_by : List (Option ℕ) → ℕ → Bool
dropped_by numbers zero = false
dropped_by numbers (suc n) = is_unnumbered (slice_get numbers n)

unnumbered_is : (o : Option (Option ℕ)) → is_unnumbered o ≡ true → o ≡ Some None
unnumbered_is None e = absurd (cc)
unnumbered_is (Some None) e = refl
unnumbered_is (Some (Some n)) e = absurd (cc)

get_front : {X : Type 0} (xs ys : List X) (i : ℕ) → i < length xs → slice_get (xs ++ ys) i ≡ slice_get xs i
get_front [] ys i below = absurd (omega arith)
get_front (x ∷ xs) ys zero below = refl
get_front (x ∷ xs) ys (suc i) below = get_front xs ys i (omega arith)

get_middle : {X : Type 0} (xs : List X) (y : X) (ys : List X) → slice_get (xs ++ y ∷ ys) (length xs) ≡ Some y
get_middle [] y ys = refl
get_middle (x ∷ xs) y ys = get_middle xs y ys

before_none : {X : Type 0} (o : Option X) → before_all o None ≡ None
before_none None = refl
before_none (Some x) = refl

module _ {S A : Type 0} (form : StepForm S A) (gone : S → Bool) where
  -- the new numbers of steps, those before them given, and how many of those are kept
  abbrev numbers_from : List (Option ℕ) → ℕ → List S → List (Option ℕ)
  numbers_from numbers count [] = []
  numbers_from numbers count (step ∷ steps) =
      let premises = new_premises form gone numbers step in
      number_for premises count
      ∷ numbers_from (numbers ++ number_for premises count ∷ []) (count_with premises count) steps

  -- a step that is gone, or has a dropped premise, has no new premises
  gone_none : (numbers : List (Option ℕ)) (step : S) → gone step ≡ true → new_premises form gone numbers step ≡ None
  gone_none numbers step e = ap (λ b. cond b None (new_numbers numbers (form.premises step))) e

  unnew_none : (numbers : List (Option ℕ)) (step : S) → new_numbers numbers (form.premises step) ≡ None
      → new_premises form gone numbers step ≡ None
  unnew_none numbers step e = choice (gone step) (new_numbers numbers (form.premises step)) e
    where
      choice : (b : Bool) (o : Option (List ℕ)) → o ≡ None → cond b None o ≡ None
      choice true o g = refl
      choice false o g = g

module _ {S A : Type 0} (form : StepForm S A) (gone : S → Bool) (all : List (Option ℕ)) where
  -- the steps from the one of this number on, the new numbers before it, and how many are kept there, fit all numbers
  record Fits (n : ℕ) (numbers : List (Option ℕ)) (count : ℕ) (steps : List S) : Type 0 where
    pub whole : all ≡ numbers ++ numbers_from form gone numbers count steps
    pub place : n ≡ length numbers
    pub counted : number_left (dropped_by all) n ≡ count
    pub numbered : (k m : ℕ) → slice_get numbers k ≡ Some (Some m) → number_left (dropped_by all) (suc k) ≡ m

  -- what is said of a number before
  before : (n : ℕ) (numbers : List (Option ℕ)) (count : ℕ) (steps : List S) → Fits n numbers count steps → (k : ℕ)
      → k < n
      → slice_get all k ≡ slice_get numbers k
  before n numbers count steps f k below =
      ap (λ xs. slice_get xs k) f.whole
      ∙ get_front numbers (numbers_from form gone numbers count steps) k (omega (arith, f.place))

  -- and of the number itself
  here : (n : ℕ) (numbers : List (Option ℕ)) (count : ℕ) (step : S) (steps : List S)
      → Fits n numbers count (step ∷ steps)
      → slice_get all n ≡ Some (number_for (new_premises form gone numbers step) count)
  here n numbers count step steps f =
      let number = number_for (new_premises form gone numbers step) count in
      let later = numbers_from form gone (numbers ++ number ∷ [])
      (count_with (new_premises form gone numbers step) count) steps in
      ap (slice_get all) f.place ∙ (ap (λ xs. slice_get xs (length numbers)) f.whole ∙ get_middle numbers number later)

  -- one number more is left, or not
  left_next : (n : ℕ) (count : ℕ) (o : Option (List ℕ)) → slice_get all n ≡ Some (number_for o count)
      → number_left (dropped_by all) n ≡ count
      → number_left (dropped_by all) (suc n) ≡ count_with o count
  left_next n count None e f =
      ap (λ p. cond (is_unnumbered p) (number_left (dropped_by all) n) (suc (number_left (dropped_by all) n))) e ∙ f
  left_next n count (Some ps) e f =
      ap (λ p. cond (is_unnumbered p) (number_left (dropped_by all) n) (suc (number_left (dropped_by all) n))) e
      ∙ ap suc f

  number_is : (o : Option (List ℕ)) (count m : ℕ) → Some m ≡ number_for o count → count_with o count ≡ m
  number_is None count m e = absurd (cc)
  number_is (Some ps) count m e = let is : m ≡ suc count = cc in sym is

  fits_next : (n : ℕ) (numbers : List (Option ℕ)) (count : ℕ) (step : S) (steps : List S)
      → Fits n numbers count (step ∷ steps)
      → Fits (suc n) (numbers ++ number_for (new_premises form gone numbers step) count ∷ [])
      (count_with (new_premises form gone numbers step) count) steps
  fits_next n numbers count step steps f =
      let o = new_premises form gone numbers step in
      let number = number_for o count in
      let later = numbers_from form gone (numbers ++ number ∷ []) (count_with o count) steps in
      let next : number_left (dropped_by all) (suc n) ≡ count_with o count
      = left_next n count o (here n numbers count step steps f) f.counted in
      record {
        whole = f.whole ∙ sym (append_assoc numbers (number ∷ []) later);
        place = omega (arith, f.place, length-append numbers (number ∷ []));
        counted = next;
        numbered = λ k m e. elim (get_cases numbers number k (Some m) e) [
          | inl h ↦ f.numbered k m h
          | inr h ↦ ap (λ z. number_left (dropped_by all) (suc z)) (h.0 ∙ sym f.place)
              ∙ (next ∙ number_is o count m h.1)
        ];
      }

  -- a premise that is dropped has no new number
  unnew : (n : ℕ) (numbers : List (Option ℕ)) (count : ℕ) (steps : List S) → Fits n numbers count steps
      → (premises : List ℕ)
      → list_all (λ k. nat_lt k (suc n)) premises ≡ true → list_any (has_step (dropped_by all)) premises ≡ true
      → new_numbers numbers premises ≡ None
  unnew n numbers count steps f [] earlier e = absurd (cc)
  unnew n numbers count steps f (zero ∷ premises) earlier e =
      let p = and_parts (nat_lt 0 (suc n)) (list_all (λ k. nat_lt k (suc n)) premises) earlier in
      ap (before_all (Some zero)) (unnew n numbers count steps f premises p.1 e)
  unnew n numbers count steps f (suc k ∷ premises) earlier e =
      let p = and_parts (nat_lt (suc k) (suc n)) (list_all (λ j. nat_lt j (suc n)) premises) earlier in
      let below : suc k < suc n = ltb-true (suc k) (suc n) p.0 in
      elim (or_cases (dropped_by all (suc k)) (list_any (has_step (dropped_by all)) premises) e) [
        | inl h ↦
            let none : slice_get numbers k ≡ Some None
            = sym (before n numbers count steps f k (omega arith)) ∙ unnumbered_is (slice_get all k) h in
            ap (λ o. before_all (kept_number o) (new_numbers numbers premises)) none
        | inr h ↦
            ap (before_all (kept_number (slice_get numbers k))) (unnew n numbers count steps f premises p.1 h)
            ∙ before_none (kept_number (slice_get numbers k))
      ]

  -- the new numbers of premises count what is left
  new_are : (n : ℕ) (numbers : List (Option ℕ)) (count : ℕ) (steps : List S) → Fits n numbers count steps
      → (premises news : List ℕ)
      → new_numbers numbers premises ≡ Some news → news ≡ map (number_left (dropped_by all)) premises
  new_are n numbers count steps f [] news e = cc
  new_are n numbers count steps f (zero ∷ premises) news e =
      let r = all_there (Some zero) (new_numbers numbers premises) news e in
      let is : zero ≡ r.0 = cc in
      r.4 ∙ (ap (λ z. z ∷ r.1) (sym is) ∙ ap (λ zs. zero ∷ zs) (new_are n numbers count steps f premises r.1 r.3))
  new_are n numbers count steps f (suc k ∷ premises) news e =
      let r = all_there (kept_number (slice_get numbers k)) (new_numbers numbers premises) news e in
      let is : number_left (dropped_by all) (suc k) ≡ r.0
      = f.numbered k r.0 (number_there (slice_get numbers k) r.0 r.2) in
      r.4 ∙ (ap (λ z. z ∷ r.1) (sym is)
      ∙ ap (λ zs. number_left (dropped_by all) (suc k) ∷ zs) (new_are n numbers count steps f premises r.1 r.3))
    where
      number_there : (o : Option (Option ℕ)) (m : ℕ) → kept_number o ≡ Some m → o ≡ Some (Some m)
      number_there None m g = absurd (cc)
      number_there (Some number) m g = ap Some g

  -- a step that is to be dropped has its number among the dropped
  dropped_here : (n : ℕ) (numbers : List (Option ℕ)) (count : ℕ) (step : S) (steps : List S)
      → Fits n numbers count (step ∷ steps)
      → list_all (λ k. nat_lt k (suc n)) (form.premises step) ≡ true → is_to_drop form gone (dropped_by all) step ≡ true
      → dropped_by all (suc n) ≡ true
  dropped_here n numbers count step steps f earlier e =
      let some = list_any (has_step (dropped_by all)) (form.premises step) in
      let none : new_premises form gone numbers step ≡ None
      = elim (or_cases (gone step) some e) [
        | inl h ↦ gone_none form gone numbers step h
        | inr h ↦ unnew_none form gone numbers step
            (unnew n numbers count (step ∷ steps) f (form.premises step) earlier h)
      ] in
      ap is_unnumbered (here n numbers count step steps f) ∙ ap (λ o. is_unnumbered (Some (number_for o count))) none

  is_dropping : (n : ℕ) (numbers : List (Option ℕ)) (count : ℕ) (steps : List S) → Fits n numbers count steps
      → cites_earlier form (suc n) steps ≡ true
      → IsDropping form gone (dropped_by all) (suc n) steps
  is_dropping n numbers count [] f earlier = tt
  is_dropping n numbers count (step ∷ steps) f earlier =
      let p = and_parts (list_all (λ k. nat_lt k (suc n)) (form.premises step))
      (cites_earlier form (suc (suc n)) steps) earlier in
      let o = new_premises form gone numbers step in (
        dropped_here n numbers count step steps f p.0,
        is_dropping (suc n) (numbers ++ number_for o count ∷ []) (count_with o count) steps
            (fits_next n numbers count step steps f) p.1,
      )

  -- what is kept is what is left without the dropped
  left_here : (n : ℕ) (count : ℕ) (step : S) (o : Option (List ℕ)) (later : List S)
      → slice_get all n ≡ Some (number_for o count)
      → ((news : List ℕ) → o ≡ Some news → news ≡ map (number_left (dropped_by all)) (form.premises step))
      → with_step form step o later ≡ cond (dropped_by all (suc n)) later
      (form.with_premises step (map (number_left (dropped_by all)) (form.premises step)) ∷ later)
  left_here n count step None later e g =
      sym (ap (λ p. cond (is_unnumbered p) later
      (form.with_premises step (map (number_left (dropped_by all)) (form.premises step)) ∷ later)) e)
  left_here n count step (Some news) later e g =
      ap (λ ns. form.with_premises step ns ∷ later) (g news refl)
      ∙ sym (ap (λ p. cond (is_unnumbered p) later
      (form.with_premises step (map (number_left (dropped_by all)) (form.premises step)) ∷ later)) e)

  left_is : (n : ℕ) (numbers : List (Option ℕ)) (count : ℕ) (steps : List S) → Fits n numbers count steps
      → kept form gone numbers count steps ≡ without form (dropped_by all) (suc n) steps
  left_is n numbers count [] f = refl
  left_is n numbers count (step ∷ steps) f =
      let o = new_premises form gone numbers step in
      let rest : kept form gone (numbers ++ number_for o count ∷ []) (count_with o count) steps
      ≡ without form (dropped_by all)
      (suc (suc n)) steps
      = left_is (suc n) (numbers ++ number_for o count ∷ []) (count_with o count) steps
      (fits_next n numbers count step steps f) in
      ap (with_step form step o) rest
      ∙ left_here n count step o (without form (dropped_by all) (suc (suc n)) steps) (here n numbers count step steps f)
      (λ news e. new_are n numbers count (step ∷ steps) f (form.premises step) news
      (not_gone form gone numbers step news e).1)

-- a premise of a step that is dropped is dropped in each such set, if the ones before are
module _ {S A : Type 0} (form : StepForm S A) (gone : S → Bool) (other : ℕ → Bool) where
  -- what has no new number so far is in the other set
  abbrev Holds : List (Option ℕ) → Type 0
  Holds numbers = (k : ℕ) → slice_get numbers k ≡ Some None → other (suc k) ≡ true

  -- premises without new numbers are in the other set, one of them
  some_dropped : (n : ℕ) (numbers : List (Option ℕ)) → n ≡ length numbers → Holds numbers → (premises : List ℕ)
      → list_all (λ k. nat_lt k (suc n)) premises ≡ true → new_numbers numbers premises ≡ None
      → list_any (has_step other) premises ≡ true
  some_dropped n numbers is holds [] earlier e = absurd (cc)
  some_dropped n numbers is holds (zero ∷ premises) earlier e =
      let p = and_parts (nat_lt 0 (suc n)) (list_all (λ k. nat_lt k (suc n)) premises) earlier in
      some_dropped n numbers is holds premises p.1 (rest_none zero (new_numbers numbers premises) e)
    where
      rest_none : (x : ℕ) (o : Option (List ℕ)) → before_all (Some x) o ≡ None → o ≡ None
      rest_none x None g = refl
      rest_none x (Some xs) g = absurd (cc)
  some_dropped n numbers is holds (suc k ∷ premises) earlier e =
      let p = and_parts (nat_lt (suc k) (suc n)) (list_all (λ j. nat_lt j (suc n)) premises) earlier in
      let below : suc k < suc n = ltb-true (suc k) (suc n) p.0 in
      let rest = list_any (has_step other) premises in
      elim (slice_get numbers k) as (λ o. slice_get numbers k ≡ o → (other (suc k) || rest) ≡ true) [
        | None ↦ λ g. absurd (there numbers k (omega (arith, is)) g)
        | Some m ↦ elim m as (λ m. slice_get numbers k ≡ Some m → (other (suc k) || rest) ≡ true) [
          | None ↦ λ g. or_left (other (suc k)) rest (holds k g)
          | Some j ↦ λ g.
              let none : new_numbers numbers premises ≡ None
              = rest_none j (new_numbers numbers premises)
              (sym (ap (λ o. before_all (kept_number o) (new_numbers numbers premises)) g) ∙ e) in
              or_right (other (suc k)) rest (some_dropped n numbers is holds premises p.1 none)
        ]
      ] refl
    where
      there : {X : Type 0} (xs : List X) (i : ℕ) → i < length xs → slice_get xs i ≡ None → ⊥
      there [] i h g = omega arith
      there (x ∷ xs) zero h g = cc
      there (x ∷ xs) (suc i) h g = there xs i (omega arith) g

      rest_none : (x : ℕ) (o : Option (List ℕ)) → before_all (Some x) o ≡ None → o ≡ None
      rest_none x None g = refl
      rest_none x (Some xs) g = absurd (cc)

  -- so a step without new premises is to be dropped there
  to_drop : (n : ℕ) (numbers : List (Option ℕ)) → n ≡ length numbers → Holds numbers → (step : S)
      → list_all (λ k. nat_lt k (suc n)) (form.premises step) ≡ true → new_premises form gone numbers step ≡ None
      → is_to_drop form gone other step ≡ true
  to_drop n numbers is holds step earlier e =
      let some = list_any (has_step other) (form.premises step) in
      elim (gone step) as (λ b. cond b None (new_numbers numbers (form.premises step)) ≡ None → (b || some) ≡ true) [
        | true ↦ λ g. refl
        | false ↦ λ g. some_dropped n numbers is holds (form.premises step) earlier g
      ] e

  holds_next : (n : ℕ) (numbers : List (Option ℕ)) (count : ℕ) (o : Option (List ℕ)) → n ≡ length numbers
      → Holds numbers
      → (o ≡ None → other (suc n) ≡ true) → Holds (numbers ++ number_for o count ∷ [])
  holds_next n numbers count o is holds g k e =
      elim (get_cases numbers (number_for o count) k None e) [
        | inl h ↦ holds k h
        | inr h ↦ ap (λ z. other (suc z)) (h.0 ∙ sym is) ∙ g (none_is o h.1)
      ]
    where
      none_is : (p : Option (List ℕ)) → None ≡ number_for p count → p ≡ None
      none_is None f = refl
      none_is (Some ps) f = absurd (cc)

  least_from : (n : ℕ) (numbers : List (Option ℕ)) (count : ℕ) (steps : List S) → n ≡ length numbers → Holds numbers
      → cites_earlier form (suc n) steps ≡ true → IsDropping form gone other (suc n) steps
      → Holds (numbers ++ numbers_from form gone numbers count steps)
  least_from n numbers count [] is holds earlier d k e =
      holds k (ap (λ xs. slice_get xs k) (sym (append-nil numbers)) ∙ e)
  least_from n numbers count (step ∷ steps) is holds earlier d k e =
      let p = and_parts (list_all (λ j. nat_lt j (suc n)) (form.premises step))
      (cites_earlier form (suc (suc n)) steps) earlier in
      let o = new_premises form gone numbers step in
      let number = number_for o count in
      let later = numbers_from form gone (numbers ++ number ∷ []) (count_with o count) steps in
      least_from (suc n) (numbers ++ number ∷ []) (count_with o count) steps
      (omega (arith, is, length-append numbers (number ∷ [])))
      (holds_next n numbers count o is holds (λ g. d.0 (to_drop n numbers is holds step p.0 g))) p.1 d.1 k
      (ap (λ xs. slice_get xs k) (append_assoc numbers (number ∷ []) later) ∙ e)

-- what is kept is what the least set of dropped steps leaves
pub kept_is_left : {S A : Type 0} (form : StepForm S A) (gone : S → Bool) (steps : List S)
    → cites_earlier form 1 steps ≡ true
    → IsLeft form gone steps (kept form gone [] 0 steps)
kept_is_left form gone steps earlier =
    let all = numbers_from form gone [] 0 steps in
    let f : Fits form gone all 0 [] 0 steps
    = record { whole = refl; place = refl; counted = refl; numbered = λ k m e. absurd (cc) } in
    record {
      dropped = dropped_by all;
      is = is_dropping form gone all 0 [] 0 steps f earlier;
      least =
          λ other d n e. among all other
          (λ k. least_from form gone other 0 [] 0 steps refl (λ j g. absurd (cc)) earlier d k) n e;
      rest = left_is form gone all 0 [] 0 steps f;
    }
  where
    among : (numbers : List (Option ℕ)) (other : ℕ → Bool)
        → ((k : ℕ) → slice_get numbers k ≡ Some None → other (suc k) ≡ true)
        → (n : ℕ) → dropped_by numbers n ≡ true → other n ≡ true
    among numbers other g zero e = absurd (cc)
    among numbers other g (suc n) e = g n (unnumbered_is (slice_get numbers n) e)
