-- What is cited one by one is cited together.
use Rattle.std.proofs.Common.{◌≡◌, ℕ, ◌+◌, ◌-◌, ◌<◌, ◌≤◌, Bool, true, false, cond, not, ◌&&◌, List, [], ◌∷◌, ◌++◌}
use Rattle.std.proofs.Common.{length, take, drop, get_or, map, refl, sym, ◌∙◌, ap, arith}
use Rattle.std.specs.Prelude.{flat_map, is_none, is_some, Option, None, Some}
use Rattle.std.specs.List.{filter, find, list_all, range_with_len}
use Rattle.std.proofs.lemmas.List.{map-append, take_all}
use Rattle.std.proofs.lemmas.List.Elements.{filter-append}
use Rattle.vc_base.proofs.RangeLaws.{range_next}
use Rattle.vc_plan.specs.declared.atoms.Atom.{Atom}
use Rattle.vc_rule_yield.specs.Yielding.{Yielded}
use Rattle.vc_rule_premises.specs.Citing.{cited_all}
use Rattle.vc_rule_premises.proofs.CitingLemmas as citing

pub cited_append : (y : Yielded) (xs ys : List Atom) → cited_all (cited_all y xs) ys ≡ cited_all y (xs ++ ys)
cited_append y xs ys = citing.cited_append y xs ys

-- where no element fails the test, all pass
pub none_found : {A : Type 0} (p : A → Bool) (xs : List A) → is_none (find (λ x. not (p x)) xs) ≡ list_all p xs
none_found p [] = refl
none_found p (x ∷ xs) =
    elim (p x) as (λ b. is_none (cond (not b) (Some x) (find (λ y. not (p y)) xs)) ≡ (b && list_all p xs)) [
      | true ↦ none_found p xs
      | false ↦ refl
    ]

pub none_told : {A : Type 0} (o : Option A) (b : Bool) → is_some o ≡ not b → b ≡ is_none o
none_told None true e = refl
none_told None false e = absurd (cc)
none_told (Some x) true e = absurd (cc)
none_told (Some x) false e = refl

-- what is cited for the first of a list, and then for those after it
pub cited_first : {A : Type 0} (f : A → List Atom) (y m : Yielded) (rest : List A) (x : A) → 1 ≤ length rest
    → x ≡ get_or rest 0 x
    → m ≡ cited_all y (f x)
    → cited_all m (flat_map f (take (length rest - 1) (drop 1 rest))) ≡ cited_all y (flat_map f rest)
cited_first f y m [] x some is e = absurd (omega arith)
cited_first f y m (z ∷ rest) x some is e =
    let more : take (length (z ∷ rest) - 1) rest ≡ rest = take_all (length (z ∷ rest) - 1) rest (omega arith) in
    ap (λ xs. cited_all m (flat_map f xs)) more
    ∙ (ap (λ w. cited_all w (flat_map f rest)) (e ∙ ap (λ w. cited_all y (f w)) is)
    ∙ citing.cited_append y (f z) (flat_map f rest))

-- what is cited for a number, and then for those after it
pub cited_number : (f : ℕ → Atom) (p : ℕ → Bool) (y m : Yielded) (g n : ℕ) → g < n
    → m ≡ cited_all y (map f (filter p (g ∷ [])))
    → cited_all m (map f (filter p (range_with_len (g + 1) (n - (g + 1)))))
    ≡ cited_all y (map f (filter p (range_with_len g (n - g))))
cited_number f p y m g n below e =
    let rest = range_with_len (g + 1) (n - (g + 1)) in
    let split : filter p (range_with_len g (n - g)) ≡ filter p (g ∷ []) ++ filter p rest =
    ap (filter p) (range_next g n below) ∙ filter-append p (g ∷ []) rest in
    ap (λ z. cited_all z (map f (filter p rest))) e
    ∙ (citing.cited_append y (map f (filter p (g ∷ []))) (map f (filter p rest))
    ∙ (ap (cited_all y) (sym (map-append f (filter p (g ∷ [])) (filter p rest)))
    ∙ ap (λ gs. cited_all y (map f gs)) (sym split)))
