-- What numbers cite, one after the other.
use Rattle.std.proofs.Common.{◌≡◌, ℕ, zero, suc, Bool, true, false, List, [], ◌∷◌, ◌++◌, length}
use Rattle.std.proofs.Common.{take, drop, refl, sym, ◌∙◌, ap, cond, append_assoc}
use Rattle.std.specs.Prelude.{Option, None, Some, option_map, slice_get}
use Rattle.std.proofs.lemmas.Option.{slice_get-map}
use Rattle.vc_base.specs.Chains.{all_pass, before_all, cited, first_refused, is_justified}
use Rattle.vc_plan.specs.declared.atoms.Atom.{Atom}
use Rattle.vc_plan.specs.declared.atoms.Step.{Step}
use Rattle.vc_plan_reasons.specs.Checking.{concluded, step_form}
use Rattle.vc_check.specs.Citing.{if_there, one_cited, with_cited}

pub concluded_at : (steps : List Step) (place : ℕ)
    → slice_get (concluded steps) place ≡ option_map (λ step. step.conclusion) (slice_get steps place)
concluded_at steps place = slice_get-map (λ step. step.conclusion) steps place

append_none : (xs : List Atom) → xs ++ [] ≡ xs
append_none [] = refl
append_none (x ∷ xs) = ap (λ ys. x ∷ ys) (append_none xs)

-- one number
pub cites_start : (earlier set : List Atom) (number : ℕ) → number ≡ 0
    → Some set ≡ with_cited set (cited earlier (number ∷ []))
cites_start earlier set number e =
    ap Some (sym (append_none set)) ∙ ap (λ n. with_cited set (cited earlier (n ∷ []))) (sym e)

cites_suc : (earlier : List Atom) (n : ℕ) → one_cited (slice_get earlier n) ≡ cited earlier (suc n ∷ [])
cites_suc earlier n = by (slice_get earlier n)
  where
    by : (o : Option Atom) → one_cited o ≡ before_all o (Some [])
    by None = refl
    by (Some a) = refl

pub cites_one : (earlier : List Atom) (number n : ℕ) (o : Option Atom) → number ≡ suc n → o ≡ slice_get earlier n
    → one_cited o ≡ cited earlier (number ∷ [])
cites_one earlier number n o e is =
    ap one_cited is ∙ (cites_suc earlier n ∙ ap (λ k. cited earlier (k ∷ [])) (sym e))

pub ruleset citing_one = (cites_start)

-- the first of numbers, and those after it
pub cited_next : (earlier old new : List Atom) (n : ℕ) (numbers : List ℕ)
    → if_there true new ≡ with_cited old (cited earlier (n ∷ []))
    → with_cited new (cited earlier numbers) ≡ with_cited old (cited earlier (n ∷ numbers))
cited_next earlier old new zero numbers e =
    let same : new ≡ old ++ [] = cc in
    ap (λ s. with_cited s (cited earlier numbers)) (same ∙ append_none old)
cited_next earlier old new (suc n) numbers e = by (slice_get earlier n) (cited earlier numbers) e
  where
    by : (o : Option Atom) (c : Option (List Atom)) → Some new ≡ with_cited old (before_all o (Some []))
        → with_cited new c ≡ with_cited old (before_all o c)
    by None c f = absurd (cc)
    by (Some a) None f = refl
    by (Some a) (Some xs) f =
        let same : new ≡ old ++ a ∷ [] = cc in
        ap (λ s. Some (s ++ xs)) same ∙ ap Some (append_assoc old (a ∷ []) xs)

pub uncited_next : (earlier old new : List Atom) (n : ℕ) (numbers : List ℕ)
    → if_there false new ≡ with_cited old (cited earlier (n ∷ []))
    → None ≡ with_cited old (cited earlier (n ∷ numbers))
uncited_next earlier old new zero numbers e = absurd (cc)
uncited_next earlier old new (suc n) numbers e = by (slice_get earlier n) (cited earlier numbers) e
  where
    by : (o : Option Atom) (c : Option (List Atom)) → None ≡ with_cited old (before_all o (Some []))
        → None ≡ with_cited old (before_all o c)
    by None c f = refl
    by (Some a) c f = absurd (cc)

pub cites_none : (set : List Atom) → Some set ≡ with_cited set (Some [])
cites_none set = ap Some (sym (append_none set))

-- what passes of what is cited with a start
pub passes_there : (test : List Atom → Bool) (start set : List Atom) (c : Option (List Atom)) (r : Bool)
    → if_there true set ≡ with_cited start c
    → ((atoms : List Atom) → set ≡ start ++ atoms → r ≡ test atoms) → r ≡ all_pass test c
passes_there test start set None r e f = absurd (cc)
passes_there test start set (Some atoms) r e f = f atoms (cc)

pub passes_not : (test : List Atom → Bool) (start set : List Atom) (c : Option (List Atom))
    → if_there false set ≡ with_cited start c → false ≡ all_pass test c
passes_not test start set None e = refl
passes_not test start set (Some atoms) e = absurd (cc)

pub set_there : (start set : List Atom) (c : Option (List Atom)) → if_there true set ≡ with_cited start c
    → (atoms : List Atom) × (c ≡ Some atoms) × (set ≡ start ++ atoms)
set_there start set None e = absurd (cc)
set_there start set (Some atoms) e = (atoms, refl, cc)

-- the steps from one on, by that one and those after it
module _ (follows : Step → List Atom → Bool) (list : List Step) where
  drop_at : (xs : List Step) (i : ℕ) (x : Step) → slice_get xs i ≡ Some x → drop i xs ≡ x ∷ drop (suc i) xs
  drop_at [] i x e = absurd (cc)
  drop_at (y ∷ ys) zero x e = let same : y ≡ x = cc in ap (λ z. z ∷ ys) same
  drop_at (y ∷ ys) (suc i) x e = drop_at ys i x e

  take_at : (xs : List Step) (i : ℕ) (x : Step) → slice_get xs i ≡ Some x
      → concluded (take (suc i) xs) ≡ concluded (take i xs) ++ x.conclusion ∷ []
  take_at [] i x e = absurd (cc)
  take_at (y ∷ ys) zero x e = let same : y ≡ x = cc in ap (λ z. z.conclusion ∷ []) same
  take_at (y ∷ ys) (suc i) x e = ap (λ zs. y.conclusion ∷ zs) (take_at ys i x e)

  count_at : (xs : List Step) (i : ℕ) (x : Step) → slice_get xs i ≡ Some x → length (concluded (take i xs)) ≡ i
  count_at [] i x e = absurd (cc)
  count_at (y ∷ ys) zero x e = refl
  count_at (y ∷ ys) (suc i) x e = ap suc (count_at ys i x e)

  drop_none : (xs : List Step) (i : ℕ) → slice_get xs i ≡ None → drop i xs ≡ []
  drop_none [] zero e = refl
  drop_none [] (suc i) e = refl
  drop_none (y ∷ ys) zero e = absurd (cc)
  drop_none (y ∷ ys) (suc i) e = drop_none ys i e

  split : (i : ℕ) (step : Step) → slice_get list i ≡ Some step
      → first_refused step_form follows (concluded (take i list)) (drop i list)
      ≡ cond (is_justified step_form follows (concluded (take i list)) step)
      (first_refused step_form follows (concluded (take (suc i) list)) (drop (suc i) list)) (Some (suc i))
  split i step e =
      ap (λ xs. first_refused step_form follows (concluded (take i list)) xs) (drop_at list i step e)
      ∙ (ap (λ c. cond (is_justified step_form follows (concluded (take i list)) step)
      (first_refused step_form follows c (drop (suc i) list)) (Some (suc (length (concluded (take i list))))))
      (sym (take_at list i step e))
      ∙ ap (λ n. cond (is_justified step_form follows (concluded (take i list)) step)
      (first_refused step_form follows (concluded (take (suc i) list)) (drop (suc i) list)) (Some (suc n)))
      (count_at list i step e))

  pub refused_next : (i n : ℕ) (step : Step) → n ≡ suc i → slice_get list i ≡ Some step
      → is_justified step_form follows (concluded (take i list)) step ≡ true
      → first_refused step_form follows (concluded (take n list)) (drop n list)
      ≡ first_refused step_form follows (concluded (take i list)) (drop i list)
  refused_next i n step e at is =
      ap (λ k. first_refused step_form follows (concluded (take k list)) (drop k list)) e
      ∙ sym (split i step at
      ∙ ap (λ b. cond b (first_refused step_form follows (concluded (take (suc i) list)) (drop (suc i) list))
      (Some (suc i))) is)

  pub refused_here : (i n : ℕ) (step : Step) → n ≡ suc i → slice_get list i ≡ Some step
      → is_justified step_form follows (concluded (take i list)) step ≡ false
      → Some n ≡ first_refused step_form follows (concluded (take i list)) (drop i list)
  refused_here i n step e at is =
      ap Some e
      ∙ sym (split i step at
      ∙ ap (λ b. cond b (first_refused step_form follows (concluded (take (suc i) list)) (drop (suc i) list))
      (Some (suc i))) is)

  pub refused_none : (i : ℕ) → slice_get list i ≡ None
      → None ≡ first_refused step_form follows (concluded (take i list)) (drop i list)
  refused_none i e =
      ap (λ xs. first_refused step_form follows (concluded (take i list)) xs) (sym (drop_none list i e))
