-- What is cited of a list: all of it but that the root is here, nothing else, each once.
use Rattle.std.proofs.Common.{◌≡◌, ◌≤◌, true, false, cond, ◌||◌, ◌⊎◌, List, [], ◌∷◌, ◌++◌, length, refl, sym, ◌∙◌, ap}
use Rattle.std.proofs.Common.{subst, inl, inr, arith, length-append}
use Rattle.std.specs.List.{IsDistinct, AllByRecursion}
use Rattle.std.proofs.lemmas.Bool.{or_from, or_parts}
use Rattle.std.proofs.lemmas.Map.Made.{length-le_from_is_member}
use Rattle.vc_base.specs.Sets.{has}
use Rattle.vc_base.proofs.SetLaws.{told, has_either, has_front, has_back, has_cases, has_more, has_first}
use Rattle.vc_plan.specs.declared.atoms.Atom.{Atom}
use Rattle.vc_plan.specs.declared.atoms.Atom.TheVariants.{Here}
use Rattle.vc_plan.specs.Seen.{same_atom}
use Rattle.vc_plan.proofs.PlanLaws.Atoms.{atom_exact, atom_itself, atom_equivalence}
use Rattle.vc_rule_premises.specs.Cited.{cited_with, cited_onto, cited_once}
use Rattle.vc_rule_premises.specs.Laws.{AllIsCited, NothingElseIsCited, EachIsCitedOnce, FewAreCited}

-- what an atom that is cited already, or is the root's, and one that is neither, make of a list
cited_before : (cites : List Atom) (a : Atom) → (same_atom (Here 0) a || has same_atom cites a) ≡ true
    → cited_with cites a ≡ cites
cited_before cites a e = ap (λ b. cond b cites (cites ++ a ∷ [])) e

cited_anew : (cites : List Atom) (a : Atom) → same_atom (Here 0) a ≡ false → has same_atom cites a ≡ false
    → cited_with cites a ≡ cites ++ a ∷ []
cited_anew cites a r e =
    ap (λ b. cond b cites (cites ++ a ∷ [])) (or_from (same_atom (Here 0) a) (has same_atom cites a) r e)

with_keeps : (cites : List Atom) (x a : Atom) → has same_atom cites a ≡ true
    → has same_atom (cited_with cites x) a ≡ true
with_keeps cites x a h =
    elim (same_atom (Here 0) x || has same_atom cites x) as
    (λ b. has same_atom (cond b cites (cites ++ x ∷ [])) a ≡ true) [
      | true ↦ h
      | false ↦ has_front same_atom atom_exact atom_itself cites (x ∷ []) a h
    ]

with_has : (cites : List Atom) (a : Atom) → same_atom (Here 0) a ≡ false → has same_atom (cited_with cites a) a ≡ true
with_has cites a r =
    elim (told (has same_atom cites a)) [
      | inl e ↦ with_keeps cites a a e
      | inr e ↦ subst (λ z. has same_atom z a ≡ true) (sym (cited_anew cites a r e))
          (has_back same_atom atom_exact atom_itself cites (a ∷ []) a (has_first same_atom atom_exact atom_itself a []))
    ]

-- how an atom comes to be cited
with_cases : (cites : List Atom) (x a : Atom) → has same_atom (cited_with cites x) a ≡ true
    → (has same_atom cites a ≡ true) ⊎ ((a ≡ x) × (same_atom (Here 0) a ≡ false))
with_cases cites x a h =
    elim (told (same_atom (Here 0) x)) [
      | inl r ↦ inl (subst (λ z. has same_atom z a ≡ true)
          (ap (λ b. cond (b || has same_atom cites x) cites (cites ++ x ∷ [])) r) h)
      | inr r ↦ elim (told (has same_atom cites x)) [
        | inl e ↦ inl (subst (λ z. has same_atom z a ≡ true)
            (ap (λ b. cond (b || has same_atom cites x) cites (cites ++ x ∷ [])) r
            ∙ ap (λ b. cond b cites (cites ++ x ∷ [])) e) h)
        | inr e ↦ elim (has_either same_atom atom_exact atom_itself cites (x ∷ []) a
            (subst (λ z. has same_atom z a ≡ true) (cited_anew cites x r e) h)) [
              | inl k ↦ inl k
              | inr k ↦ elim (has_cases same_atom atom_exact atom_itself x [] a k) [
                | inl q ↦ inr (q, ap (same_atom (Here 0)) q ∙ r)
                | inr q ↦ absurd (cc)
              ]
            ]
      ]
    ]

pub onto_keeps : (cites premises : List Atom) (a : Atom) → has same_atom cites a ≡ true
    → has same_atom (cited_onto cites premises) a ≡ true
onto_keeps cites [] a h = h
onto_keeps cites (x ∷ more) a h = onto_keeps (cited_with cites x) more a (with_keeps cites x a h)

pub onto_has : (cites premises : List Atom) (a : Atom) → has same_atom premises a ≡ true → same_atom (Here 0) a ≡ false
    → has same_atom (cited_onto cites premises) a ≡ true
onto_has cites [] a h r = absurd (cc)
onto_has cites (x ∷ more) a h r =
    elim (has_cases same_atom atom_exact atom_itself x more a h) [
      | inl q ↦ onto_keeps (cited_with cites x) more a
          (subst (λ z. has same_atom (cited_with cites z) a ≡ true) q (with_has cites a r))
      | inr q ↦ onto_has (cited_with cites x) more a q r
    ]

pub onto_cases : (cites premises : List Atom) (a : Atom) → has same_atom (cited_onto cites premises) a ≡ true
    → (has same_atom cites a ≡ true) ⊎ ((has same_atom premises a ≡ true) × (same_atom (Here 0) a ≡ false))
onto_cases cites [] a h = inl h
onto_cases cites (x ∷ more) a h =
    elim (onto_cases (cited_with cites x) more a h) [
      | inl k ↦ elim (with_cases cites x a k) [
        | inl q ↦ inl q
        | inr q ↦ inr (
          subst (λ z. has same_atom (z ∷ more) a ≡ true) q.0
              (has_first same_atom atom_exact atom_itself a more),
          q.1,
        )
      ]
      | inr k ↦ inr (has_more same_atom atom_exact atom_itself x more a k.0, k.1)
    ]

-- in parts as together
pub onto_append : (cites xs ys : List Atom) → cited_onto cites (xs ++ ys) ≡ cited_onto (cited_onto cites xs) ys
onto_append cites [] ys = refl
onto_append cites (x ∷ xs) ys = onto_append (cited_with cites x) xs ys

-- a list only gets longer
with_longer : (cites : List Atom) (x : Atom) → length cites ≤ length (cited_with cites x)
with_longer cites x =
    elim (same_atom (Here 0) x || has same_atom cites x) as
    (λ b. length cites ≤ length (cond b cites (cites ++ x ∷ []))) [
      | true ↦ omega arith
      | false ↦ omega (arith, length-append cites (x ∷ []))
    ]

pub onto_longer : (cites premises : List Atom) → length cites ≤ length (cited_onto cites premises)
onto_longer cites [] = omega arith
onto_longer cites (x ∷ more) = let h = with_longer cites x in let k = onto_longer (cited_with cites x) more in
    omega arith

-- a list without doubles stays one
all_push : (P : Atom → Type 0) (xs : List Atom) (a : Atom) → AllByRecursion P xs → P a → AllByRecursion P (xs ++ a ∷ [])
all_push P [] a h p = (p, tt)
all_push P (x ∷ xs) a h p = (h.0, all_push P xs a h.1 p)

distinct_push : (xs : List Atom) (a : Atom) → IsDistinct same_atom xs → has same_atom xs a ≡ false
    → IsDistinct same_atom (xs ++ a ∷ [])
unfolding IsDistinct
distinct_push [] a d e = (tt, tt)
distinct_push (x ∷ xs) a d e =
    let h : (same_atom a x ≡ false) × (has same_atom xs a ≡ false) = or_parts (same_atom a x) (has same_atom xs a) e in
    (all_push (λ y. same_atom x y ≡ false) xs a d.0 (atom_equivalence.symm x a ∙ h.0), distinct_push xs a d.1 h.1)

with_distinct : (cites : List Atom) (x : Atom) → IsDistinct same_atom cites → IsDistinct same_atom (cited_with cites x)
with_distinct cites x d =
    elim (same_atom (Here 0) x || has same_atom cites x) as (λ b. (same_atom (Here 0) x || has same_atom cites x) ≡ b
    → IsDistinct same_atom (cond b cites (cites ++ x ∷ []))) [
      | true ↦ λ e. d
      | false ↦ λ e. let h : (same_atom (Here 0) x ≡ false) × (has same_atom cites x ≡ false) =
          or_parts (same_atom (Here 0) x) (has same_atom cites x) e in distinct_push cites x d h.1
    ] refl

onto_distinct : (cites premises : List Atom) → IsDistinct same_atom cites
    → IsDistinct same_atom (cited_onto cites premises)
onto_distinct cites [] d = d
onto_distinct cites (x ∷ more) d = onto_distinct (cited_with cites x) more (with_distinct cites x d)

none_distinct : IsDistinct same_atom []
unfolding IsDistinct
none_distinct = tt

pub all_is_cited : AllIsCited
all_is_cited premises a h r = onto_has [] premises a h r

pub nothing_else_is_cited : NothingElseIsCited
nothing_else_is_cited premises a h = elim (onto_cases [] premises a h) [ inl k ↦ absurd (cc) | inr k ↦ k ]

pub each_is_cited_once : EachIsCitedOnce
each_is_cited_once premises = onto_distinct [] premises none_distinct

pub few_are_cited : FewAreCited
few_are_cited premises all w =
    length-le_from_is_member atom_equivalence (cited_once premises) all (each_is_cited_once premises) w
