-- Laws of what is kept of a list of steps.
use Rattle.std.proofs.Common.{◌≡◌, ℕ, zero, suc, ◌<◌, Bool, true, false, cond, ◌⊎◌, List, [], ◌∷◌, ◌++◌, length, refl}
use Rattle.std.proofs.Common.{sym, ◌∙◌, ap, inl, inr, arith, length-append}
use Rattle.std.specs.Prelude.{Option, None, Some, slice_get}
use Rattle.std.proofs.lemmas.Bool.{and_from}
use Rattle.vc_base.specs.Chains.{StepForm, before_all, cited, all_pass, is_justified, accepted}
use Rattle.vc_base.specs.Kept.{kept_number, new_numbers, new_premises, with_step, number_for, count_with, kept}
use Rattle.vc_base.proofs.ChainLaws.{all_there, get_below, accepted_parts}

-- an element of a list with one more: the last one, or one of the others
pub get_front : {X : Type 0} (xs : List X) (y : X) (i : ℕ) (x : X) → slice_get xs i ≡ Some x
    → slice_get (xs ++ y ∷ []) i ≡ Some x
get_front [] y i x e = absurd (cc)
get_front (z ∷ xs) y zero x e = e
get_front (z ∷ xs) y (suc i) x e = get_front xs y i x e

pub get_end : {X : Type 0} (xs : List X) (y : X) → slice_get (xs ++ y ∷ []) (length xs) ≡ Some y
get_end [] y = refl
get_end (z ∷ xs) y = get_end xs y

pub get_cases : {X : Type 0} (xs : List X) (y : X) (i : ℕ) (x : X) → slice_get (xs ++ y ∷ []) i ≡ Some x
    → (slice_get xs i ≡ Some x) ⊎ ((i ≡ length xs) × (x ≡ y))
get_cases [] y zero x e = inr (refl, cc)
get_cases [] y (suc i) x e = absurd (cc)
get_cases (z ∷ xs) y zero x e = inl e
get_cases (z ∷ xs) y (suc i) x e =
    elim (get_cases xs y i x e) [ inl h ↦ inl h | inr h ↦ inr (omega (arith, h.0), h.1) ]

-- the new number of a step names among the later conclusions what the old one named among the earlier
abbrev pub Agrees : {A : Type 0} → List (Option ℕ) → List A → List A → Type 0
Agrees {A = A} numbers earlier later = (n m : ℕ) (a : A) → slice_get numbers n ≡ Some (Some m)
    → slice_get earlier n ≡ Some a
    → (k : ℕ) × (m ≡ suc k) × (slice_get later k ≡ Some a)

kept_is : (o : Option (Option ℕ)) (m : ℕ) → kept_number o ≡ Some m → o ≡ Some (Some m)
kept_is None m e = absurd (cc)
kept_is (Some number) m e = ap Some e

cited_one : {A : Type 0} (later : List A) (m k : ℕ) (a : A) (numbers : List ℕ) (atoms : List A) → m ≡ suc k
    → slice_get later k ≡ Some a
    → cited later numbers ≡ Some atoms → cited later (m ∷ numbers) ≡ Some (a ∷ atoms)
cited_one later m k a numbers atoms e f g =
    ap (λ z. cited later (z ∷ numbers)) e
    ∙ (ap (λ o. before_all o (cited later numbers)) f ∙ ap (before_all (Some a)) g)

cited_zero : {A : Type 0} (later : List A) (m : ℕ) (numbers : List ℕ) → m ≡ zero
    → cited later (m ∷ numbers) ≡ cited later numbers
cited_zero later m numbers e = ap (λ z. cited later (z ∷ numbers)) e

-- so new premises cite what the old ones cited
pub cited_again : {A : Type 0} (numbers : List (Option ℕ)) (earlier later : List A) (premises premises' : List ℕ)
    (atoms : List A)
    → Agrees numbers earlier later → new_numbers numbers premises ≡ Some premises' → cited earlier premises ≡ Some atoms
    → cited later premises' ≡ Some atoms
cited_again numbers earlier later [] ns atoms agrees e f = let none : [] ≡ ns = cc in ap (cited later) (sym none) ∙ f
cited_again numbers earlier later (zero ∷ premises) ns atoms agrees e f =
    let r = all_there (Some zero) (new_numbers numbers premises) ns e in
    let is : zero ≡ r.0 = cc in
    ap (cited later) r.4
    ∙ (cited_zero later r.0 r.1 (sym is) ∙ cited_again numbers earlier later premises r.1 atoms agrees r.3 f)
cited_again numbers earlier later (suc n ∷ premises) ns atoms agrees e f =
    let r = all_there (kept_number (slice_get numbers n)) (new_numbers numbers premises) ns e in
    let c = all_there (slice_get earlier n) (cited earlier premises) atoms f in
    let k = agrees n r.0 c.0 (kept_is (slice_get numbers n) r.0 r.2) c.2 in
    ap (cited later) r.4
    ∙ (cited_one later r.0 k.0 c.0 r.1 c.1 k.1 k.2 (cited_again numbers earlier later premises r.1 c.1 agrees r.3 c.3)
    ∙ ap Some (sym c.4))

agrees_dropped : {A : Type 0} (numbers : List (Option ℕ)) (earlier later : List A) (a : A)
    → length numbers ≡ length earlier
    → Agrees numbers earlier later
    → Agrees (numbers ++ None ∷ []) (earlier ++ a ∷ []) later
agrees_dropped numbers earlier later a same agrees n m b e f =
    elim (get_cases numbers None n (Some m) e) [
      | inl h ↦ elim (get_cases earlier a n b f) [
        | inl k ↦ agrees n m b h k
        | inr k ↦ let below : n < length numbers = get_below numbers n (Some m) h in absurd (omega (arith, k.0))
      ]
      | inr h ↦ let no : Some m ≡ None = h.1 in absurd (cc)
    ]

agrees_kept : {A : Type 0} (numbers : List (Option ℕ)) (earlier later : List A) (a : A) (count : ℕ)
    → length numbers ≡ length earlier → count ≡ length later
    → Agrees numbers earlier later → Agrees (numbers ++ Some (suc count) ∷ []) (earlier ++ a ∷ []) (later ++ a ∷ [])
agrees_kept numbers earlier later a count same is agrees n m b e f =
    elim (get_cases numbers (Some (suc count)) n (Some m) e) [
      | inl h ↦ elim (get_cases earlier a n b f) [
        | inl k ↦ let r = agrees n m b h k in (r.0, r.1, get_front later a r.0 b r.2)
        | inr k ↦ let below : n < length numbers = get_below numbers n (Some m) h in absurd (omega (arith, k.0))
      ]
      | inr h ↦ elim (get_cases earlier a n b f) [
        | inl k ↦ let below : n < length earlier = get_below earlier n b k in absurd (omega (arith, h.0))
        | inr k ↦
            let m_is : Some m ≡ Some (suc count) = h.1 in
            let m_same : m ≡ suc count = cc in
            (count, m_same, ap (slice_get (later ++ a ∷ [])) is ∙ (get_end later a ∙ ap Some (sym k.1)))
      ]
    ]

-- lists with one more
longer : {X Y : Type 0} (xs : List X) (x : X) (ys : List Y) (y : Y) → length xs ≡ length ys
    → length (xs ++ x ∷ []) ≡ length (ys ++ y ∷ [])
longer xs x ys y same = omega (arith, length-append xs (x ∷ []), length-append ys (y ∷ []), same)

one_more : {X : Type 0} (count : ℕ) (xs : List X) (x : X) → count ≡ length xs → suc count ≡ length (xs ++ x ∷ [])
one_more count xs x is = omega (arith, length-append xs (x ∷ []), is)

-- the parts of new premises
pub not_gone : {S A : Type 0} (form : StepForm S A) (gone : S → Bool) (numbers : List (Option ℕ)) (step : S)
    (premises : List ℕ)
    → new_premises form gone numbers step ≡ Some premises
    → (gone step ≡ false) × (new_numbers numbers (form.premises step) ≡ Some premises)
not_gone form gone numbers step premises e = choice (gone step) (new_numbers numbers (form.premises step)) e
  where
    choice : (b : Bool) (o : Option (List ℕ)) → cond b None o ≡ Some premises → (b ≡ false) × (o ≡ Some premises)
    choice true o k = absurd (cc)
    choice false o k = (refl, k)

module _ {S A : Type 0} (form : StepForm S A) (gone : S → Bool) (before after : S → List A → Bool) where
  -- a step keeps its conclusion when it is renumbered, and follows afterwards from what it followed from before, if it
  -- isn't gone
  pub record Stays : Type 0 where
    pub same : (step : S) (premises : List ℕ)
        → form.conclusion (form.with_premises step premises) ≡ form.conclusion step
    pub numbers : (step : S) (premises : List ℕ) → form.premises (form.with_premises step premises) ≡ premises
    pub follows : (step : S) (premises : List ℕ) (atoms : List A) → gone step ≡ false → before step atoms ≡ true
        → after (form.with_premises step premises) atoms ≡ true

  -- a step that is kept, before others that are accepted after it
  kept_first : Stays → (later : List A) (step : S) (premises : List ℕ) (atoms : List A) (rest : List S)
      → gone step ≡ false
      → cited later premises ≡ Some atoms → before step atoms ≡ true
      → accepted form after (later ++ form.conclusion step ∷ []) rest ≡ true
      → accepted form after later (form.with_premises step premises ∷ rest) ≡ true
  kept_first stays later step premises atoms rest stands again from onwards =
      let new = form.with_premises step premises in
      let justified : is_justified form after later new ≡ true
      = ap (λ ns. all_pass (after new) (cited later ns)) (stays.numbers step premises)
      ∙ (ap (all_pass (after new)) again ∙ stays.follows step premises atoms stands from) in
      and_from (is_justified form after later new) (accepted form after (later ++ form.conclusion new ∷ []) rest)
      justified
      (ap (λ a. accepted form after (later ++ a ∷ []) rest) (stays.same step premises) ∙ onwards)

  -- what is kept of an accepted list is accepted
  pub kept_accepted : Stays → (numbers : List (Option ℕ)) (count : ℕ) (earlier later : List A) (steps : List S)
      → length numbers ≡ length earlier
      → count ≡ length later → Agrees numbers earlier later → accepted form before earlier steps ≡ true
      → accepted form after later (kept form gone numbers count steps) ≡ true
  kept_accepted stays numbers count earlier later [] same is agrees e = refl
  kept_accepted stays numbers count earlier later (step ∷ steps) same is agrees e =
      let p = accepted_parts form before earlier step steps e in
      elim (new_premises form gone numbers step) as (λ o. new_premises form gone numbers step ≡ o
      → accepted form after later
      (with_step form step o (kept form gone (numbers ++ number_for o count ∷ []) (count_with o count) steps)) ≡ true) [
        | None ↦ λ k.
            kept_accepted stays (numbers ++ None ∷ []) count (earlier ++ form.conclusion step ∷ []) later steps
            (longer numbers None earlier (form.conclusion step) same) is
            (agrees_dropped numbers earlier later (form.conclusion step) same agrees) p.later
        | Some premises ↦ λ k.
            let n = not_gone form gone numbers step premises k in
            let again = cited_again numbers earlier later (form.premises step) premises p.atoms agrees n.1 p.cites in
            kept_first stays later step premises p.atoms
            (kept form gone (numbers ++ Some (suc count) ∷ []) (suc count) steps) n.0 again p.from
            (kept_accepted stays (numbers ++ Some (suc count) ∷ []) (suc count) (earlier ++ form.conclusion step ∷ [])
            (later ++ form.conclusion step ∷ []) steps
            (longer numbers (Some (suc count)) earlier (form.conclusion step) same)
            (one_more count later (form.conclusion step) is)
            (agrees_kept numbers earlier later (form.conclusion step) count same is agrees) p.later)
      ] refl

  -- from nothing
  pub kept_of_all : Stays → (steps : List S) → accepted form before [] steps ≡ true
      → accepted form after [] (kept form gone [] 0 steps) ≡ true
  kept_of_all stays steps e = kept_accepted stays [] 0 [] [] steps refl refl (λ n m a h k. absurd (cc)) e
