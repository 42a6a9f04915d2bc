-- Laws of accepted lists of steps.
use Rattle.std.proofs.Common.{◌≡◌, ℕ, zero, suc, ◌<◌, Bool, true, false, cond, ◌&&◌, List, [], ◌∷◌, ◌++◌, length, map}
use Rattle.std.proofs.Common.{refl, sym, ◌∙◌, ap, subst, inl, inr, arith, length-append}
use Rattle.std.specs.Prelude.{Option, None, Some, is_none, nat_lt, slice_get}
use Rattle.std.specs.List.{list_all}
use Rattle.std.proofs.lemmas.Bool.{and_parts, and_from, lt-ltb}
use Rattle.vc_base.specs.Chains.{StepForm, conclusions, before_all, cited, all_pass, is_justified, accepted}
use Rattle.vc_base.specs.Chains.{first_refused, cites_earlier}
use Rattle.vc_base.specs.Rounds.{System, atoms_of}
use Rattle.vc_base.specs.Sets.{has, Within}
use Rattle.vc_base.proofs.SetLaws.{has_either, has_first, has_more, within_cons}
use Rattle.vc_base.proofs.Settling.{Laws, IsClosed, IsIn, given_stands}

-- an element of a list by its place is below its length
pub get_below : {X : Type 0} (xs : List X) (i : ℕ) (x : X) → slice_get xs i ≡ Some x → i < length xs
get_below [] i x e = absurd (cc)
get_below (y ∷ ys) zero x e = omega arith
get_below (y ∷ ys) (suc i) x e = let h : i < length ys = get_below ys i x e in omega arith

-- both parts of what is there
pub all_there : {X : Type 0} (o : Option X) (p : Option (List X)) (ys : List X) → before_all o p ≡ Some ys
    → (x : X) × (xs : List X) × (o ≡ Some x) × (p ≡ Some xs) × (ys ≡ x ∷ xs)
all_there None p ys e = absurd (cc)
all_there (Some x) None ys e = absurd (cc)
all_there (Some x) (Some xs) ys e = (x, xs, refl, refl, cc)

-- a test that all pass is passed by what is there
pub passed : {A : Type 0} (test : List A → Bool) (o : Option (List A)) → all_pass test o ≡ true
    → (atoms : List A) × (o ≡ Some atoms) × (test atoms ≡ true)
passed test None e = absurd (cc)
passed test (Some atoms) e = (atoms, refl, e)

-- an accepted step: what it cites is there, it follows, and the later ones are accepted
pub record Accepted {S A : Type 0} (form : StepForm S A) (follows : S → List A → Bool) (earlier : List A) (step : S)
    (steps : List S) : Type 0 where
  pub atoms : List A
  pub cites : cited earlier (form.premises step) ≡ Some atoms
  pub from : follows step atoms ≡ true
  pub later : accepted form follows (earlier ++ form.conclusion step ∷ []) steps ≡ true

pub accepted_parts : {S A : Type 0} (form : StepForm S A) (follows : S → List A → Bool) (earlier : List A) (step : S)
    (steps : List S)
    → accepted form follows earlier (step ∷ steps) ≡ true → Accepted form follows earlier step steps
accepted_parts {A = A} form follows earlier step steps e =
    let later = accepted form follows (earlier ++ form.conclusion step ∷ []) steps in
    let p : (is_justified form follows earlier step ≡ true) × (later ≡ true)
    = and_parts (is_justified form follows earlier step) later e in
    let q : (atoms : List A) × (cited earlier (form.premises step) ≡ Some atoms) × (follows step atoms ≡ true)
    = passed (follows step) (cited earlier (form.premises step)) p.0 in
    record { atoms = q.0; cites = q.1; from = q.2; later = p.1 }

-- each step of an accepted list follows from something
pub accepted_at : {S A : Type 0} (form : StepForm S A) (follows : S → List A → Bool) (earlier : List A) (steps : List S)
    (i : ℕ)
    (step : S)
    → accepted form follows earlier steps ≡ true → slice_get steps i ≡ Some step
    → (atoms : List A) × (follows step atoms ≡ true)
accepted_at form follows earlier [] i step e g = absurd (cc)
accepted_at form follows earlier (first ∷ steps) zero step e g =
    let p = accepted_parts form follows earlier first steps e in
    let is : first ≡ step = cc in
    (p.atoms, subst (λ s. follows s p.atoms ≡ true) is p.from)
accepted_at form follows earlier (first ∷ steps) (suc i) step e g =
    let p = accepted_parts form follows earlier first steps e in
    accepted_at form follows (earlier ++ form.conclusion first ∷ []) steps i step p.later g

-- what is cited has a place
pub cited_at : {A : Type 0} (earlier : List A) (numbers : List ℕ) (cites : List A) (a : A)
    → cited earlier numbers ≡ Some cites
    → IsIn a cites → (i : ℕ) × (slice_get earlier i ≡ Some a)
cited_at earlier [] cites a e i = let none : [] ≡ cites = cc in absurd (subst (IsIn a) (sym none) i)
cited_at earlier (zero ∷ numbers) cites a e i = cited_at earlier numbers cites a e i
cited_at earlier (suc n ∷ numbers) cites a e i =
    let r = all_there (slice_get earlier n) (cited earlier numbers) cites e in
    elim (subst (IsIn a) r.4 i) [
      | inl q ↦ (n, r.2 ∙ ap Some (sym q))
      | inr k ↦ cited_at earlier numbers r.1 a r.3 k
    ]

-- an element of a mapped list, by its place
pub get_mapped : {X Y : Type 0} (f : X → Y) (xs : List X) (i : ℕ) (y : Y) → slice_get (map f xs) i ≡ Some y
    → (x : X) × (slice_get xs i ≡ Some x) × (f x ≡ y)
get_mapped f [] i y e = absurd (cc)
get_mapped f (x ∷ xs) zero y e = (x, refl, cc)
get_mapped f (x ∷ xs) (suc i) y e = get_mapped f xs i y e

-- no step is refused exactly where all are accepted
pub accepted_unrefused : {S A : Type 0} (form : StepForm S A) (follows : S → List A → Bool) (earlier : List A)
    (steps : List S)
    → accepted form follows earlier steps ≡ is_none (first_refused form follows earlier steps)
accepted_unrefused form follows earlier [] = refl
accepted_unrefused form follows earlier (step ∷ steps) =
    choice (is_justified form follows earlier step) (accepted form follows (earlier ++ form.conclusion step ∷ []) steps)
    (first_refused form follows (earlier ++ form.conclusion step ∷ []) steps)
    (accepted_unrefused form follows (earlier ++ form.conclusion step ∷ []) steps)
  where
    choice : (b c : Bool) (o : Option ℕ) → c ≡ is_none o → (b && c) ≡ is_none (cond b o (Some (suc (length earlier))))
    choice true c o e = e
    choice false c o e = refl

-- what is cited is there, so its steps come earlier
pub cited_earlier : {A : Type 0} (earlier : List A) (numbers : List ℕ) (atoms : List A)
    → cited earlier numbers ≡ Some atoms
    → list_all (λ k. nat_lt k (suc (length earlier))) numbers ≡ true
cited_earlier earlier [] atoms e = refl
cited_earlier earlier (zero ∷ numbers) atoms e =
    and_from (nat_lt 0 (suc (length earlier))) (list_all (λ k. nat_lt k (suc (length earlier))) numbers)
    (lt-ltb 0 (suc (length earlier)) (omega arith)) (cited_earlier earlier numbers atoms e)
cited_earlier earlier (suc n ∷ numbers) atoms e =
    let r = all_there (slice_get earlier n) (cited earlier numbers) atoms e in
    let below : n < length earlier = get_below earlier n r.0 r.2 in
    and_from (nat_lt (suc n) (suc (length earlier))) (list_all (λ k. nat_lt k (suc (length earlier))) numbers)
    (lt-ltb (suc n) (suc (length earlier)) (omega arith)) (cited_earlier earlier numbers r.1 r.3)

pub accepted_earlier : {S A : Type 0} (form : StepForm S A) (follows : S → List A → Bool) (earlier : List A)
    (steps : List S)
    → accepted form follows earlier steps ≡ true → cites_earlier form (suc (length earlier)) steps ≡ true
accepted_earlier form follows earlier [] e = refl
accepted_earlier form follows earlier (step ∷ steps) e =
    let p = accepted_parts form follows earlier step steps e in
    let longer : length (earlier ++ form.conclusion step ∷ []) ≡ suc (length earlier)
    = omega (arith, length-append earlier (form.conclusion step ∷ [])) in
    and_from (list_all (λ k. nat_lt k (suc (length earlier))) (form.premises step))
    (cites_earlier form (suc (suc (length earlier))) steps)
    (cited_earlier earlier (form.premises step) p.atoms p.cites)
    (subst (λ n. cites_earlier form (suc n) steps ≡ true) longer
    (accepted_earlier form follows (earlier ++ form.conclusion step ∷ []) steps p.later))

module _ {A : Type 0} (same : A → A → Bool) (exact : (a b : A) → same a b ≡ true → a ≡ b)
    (itself : (a : A) → same a a ≡ true) where
  -- an element by its place is in the list
  pub get_has : (xs : List A) (i : ℕ) (x : A) → slice_get xs i ≡ Some x → has same xs x ≡ true
  get_has [] i x e = absurd (cc)
  get_has (y ∷ ys) zero x e =
      let is : y ≡ x = cc in subst (λ z. has same (y ∷ ys) z ≡ true) is (has_first same exact itself y ys)
  get_has (y ∷ ys) (suc i) x e = has_more same exact itself y ys x (get_has ys i x e)

  -- what is cited stands among the earlier conclusions
  pub cited_within : (earlier : List A) (numbers : List ℕ) (atoms : List A) → cited earlier numbers ≡ Some atoms
      → Within same atoms earlier
  cited_within earlier [] atoms e a h = let none : [] ≡ atoms = cc in absurd (cc)
  cited_within earlier (zero ∷ numbers) atoms e a h = cited_within earlier numbers atoms e a h
  cited_within earlier (suc n ∷ numbers) atoms e a h =
      let r = all_there (slice_get earlier n) (cited earlier numbers) atoms e in
      within_cons same exact itself r.0 r.1 earlier (get_has earlier n r.0 r.2) (cited_within earlier numbers r.1 r.3) a
      (subst (λ z. has same z a ≡ true) r.4 h)

module _ {S A O : Type 0} (system : System A O) (laws : Laws system) (form : StepForm S A) (follows : S → List A → Bool)
    (base : List A) where
  -- what follows is given by a giver at what it follows from, with what stands from the start
  abbrev pub IsGiven : Type 0
  IsGiven = (step : S) (atoms : List A) → follows step atoms ≡ true
      → (o : O) × IsIn o system.givers
      × (has system.same (atoms_of (system.gives o (base ++ atoms))) (form.conclusion step) ≡ true)

  -- what is added to two sets within a third
  pub both_within : (xs ys zs : List A) → Within system.same xs zs → Within system.same ys zs
      → Within system.same (xs ++ ys) zs
  both_within xs ys zs v w a h =
      elim (has_either system.same laws.exact laws.itself xs ys a h) [ inl e ↦ v a e | inr e ↦ w a e ]

  pub one_within : (x : A) (zs : List A) → has system.same zs x ≡ true → Within system.same (x ∷ []) zs
  one_within x zs h = within_cons system.same laws.exact laws.itself x [] zs h (λ a k. absurd (cc))

  -- the conclusions of an accepted list stand in each closed set in which the start stands
  pub accepted_within : IsGiven → (closed : List A) → IsClosed system closed → Within system.same base closed
      → (earlier : List A) (steps : List S)
      → Within system.same earlier closed → accepted form follows earlier steps ≡ true
      → Within system.same (conclusions form steps) closed
  accepted_within given closed c b earlier [] w e = λ a h. absurd (cc)
  accepted_within given closed c b earlier (step ∷ steps) w e =
      let p = accepted_parts form follows earlier step steps e in
      let cites : Within system.same p.atoms closed
      = λ a h. w a (cited_within system.same laws.exact laws.itself earlier (form.premises step) p.atoms p.cites a h) in
      let g = given step p.atoms p.from in
      let stands : has system.same closed (form.conclusion step) ≡ true
      = given_stands system laws (base ++ p.atoms) closed g.0 (form.conclusion step) g.1 c
      (both_within base p.atoms closed b cites) g.2 in
      within_cons system.same laws.exact laws.itself (form.conclusion step) (conclusions form steps) closed stands
      (accepted_within given closed c b (earlier ++ form.conclusion step ∷ []) steps
      (both_within earlier (form.conclusion step ∷ []) closed w (one_within (form.conclusion step) closed stands))
      p.later)
