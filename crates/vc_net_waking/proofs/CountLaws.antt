-- Rules on an agenda are counted.
use Rattle.std.proofs.Common.{◌≡◌, ◌+◌, ◌≤◌, ◌⊎◌, Bool, true, false, cond, not, ◌&&◌}
use Rattle.std.proofs.Common.{List, [], ◌∷◌, ◌++◌, length, refl, ◌∙◌, ap, subst, inl, inr, arith}
use Rattle.std.proofs.Common.{length-append}
use Rattle.std.specs.Prelude.{if◌then◌else◌}
use Rattle.std.specs.List.{AllByRecursion, IsDistinct, filter}
use Rattle.std.proofs.lemmas.Bool.{or_parts}
use Rattle.std.proofs.lemmas.List.Elements.{filter-append}
use Rattle.vc_base.specs.Sets.{has, Within}
use Rattle.vc_base.proofs.SetLaws.{both, has_cases, has_either, has_first, has_more}
use Rattle.vc_base.proofs.SetLaws.{told}
use Rattle.vc_plan.specs.Gives.{Giver}
use Rattle.vc_net_agenda.specs.Agendas.{Awaited, added, is_of, with_next}
use Rattle.vc_net_laws.specs.Working.{same_giver}
use Rattle.vc_net_laws.proofs.NetLaws.Working.{giver_exact, giver_itself}
use Rattle.vc_net_waking.specs.Waking.{with_givers}
use Rattle.vc_net_waking.proofs.ComingLaws.{without, without_has, without_shorter}
use Rattle.vc_net_waking.specs.Spending.{is_rule, rules_among}

-- rules of two lists
pub both_counted : (xs ys : List Giver) → rules_among (xs ++ ys) ≡ rules_among xs + rules_among ys
both_counted xs ys =
    let split = ap (λ zs. length zs) (filter-append is_rule xs ys) in
    let sum = length-append (filter is_rule xs) (filter is_rule ys) in
    omega (arith, split, sum)

apart_has : (giver other : Giver) (xs : List Giver) → AllByRecursion (λ x. same_giver giver x ≡ false) xs
    → has same_giver xs other ≡ true → same_giver giver other ≡ false
apart_has giver other [] h k = absurd (cc)
apart_has giver other (x ∷ xs) h k =
    elim (has_cases same_giver giver_exact giver_itself x xs other k) [
      | inl is ↦ ap (same_giver giver) is ∙ h.0
      | inr more ↦ apart_has giver other xs h.1 more
    ]

-- distinct givers of a list are no more than it has
pub distinct_few : (xs ys : List Giver) → IsDistinct same_giver xs → Within same_giver xs ys → length xs ≤ length ys
unfolding IsDistinct
distinct_few [] ys once within = omega arith
distinct_few (x ∷ xs) ys once within =
    let less = without_shorter x ys (within x (has_first same_giver giver_exact giver_itself x xs)) in
    let rest = distinct_few xs (without x ys) once.1 (λ other h.
    without_has x other ys (apart_has x other xs once.0 h)
    (within other (has_more same_giver giver_exact giver_itself x xs other h))) in
    omega (arith, less, rest)

apart_filter : (p : Giver → Bool) (giver : Giver) (xs : List Giver)
    → AllByRecursion (λ x. same_giver giver x ≡ false) xs
    → AllByRecursion (λ x. same_giver giver x ≡ false) (filter p xs)
apart_filter p giver [] h = tt
apart_filter p giver (x ∷ xs) h = by (p x) (apart_filter p giver xs h.1)
  where
    by : (b : Bool) → AllByRecursion (λ y. same_giver giver y ≡ false) (filter p xs)
        → AllByRecursion (λ y. same_giver giver y ≡ false) (cond b (x ∷ filter p xs) (filter p xs))
    by true k = (h.0, k)
    by false k = k

pub filter_once : (p : Giver → Bool) (xs : List Giver) → IsDistinct same_giver xs → IsDistinct same_giver (filter p xs)
unfolding IsDistinct
filter_once p [] once = tt
filter_once p (x ∷ xs) once = by (p x) (filter_once p xs once.1)
  where
    by : (b : Bool) → IsDistinct same_giver (filter p xs)
        → IsDistinct same_giver (cond b (x ∷ filter p xs) (filter p xs))
    by true k = (apart_filter p x xs once.0, k)
    by false k = k

-- a list with a giver that it hasn't
pub added_once : (agenda : Awaited) (giver : Giver) → IsDistinct same_giver agenda.givers
    → IsDistinct same_giver (added agenda giver).givers
unfolding IsDistinct
added_once agenda giver once =
    by (is_of agenda giver) (has same_giver agenda.givers giver) refl
  where
    apart_last : (x : Giver) (xs : List Giver) → AllByRecursion (λ y. same_giver x y ≡ false) xs
        → same_giver x giver ≡ false → AllByRecursion (λ y. same_giver x y ≡ false) (xs ++ giver ∷ [])
    apart_last x [] h e = (e, tt)
    apart_last x (y ∷ xs) h e = (h.0, apart_last x xs h.1 e)

    turned : (x : Giver) → same_giver giver x ≡ false → same_giver x giver ≡ false
    turned x e =
        elim (told (same_giver x giver)) [
          | inl same ↦
              absurd (both (subst (λ z. same_giver z x ≡ true) (giver_exact x giver same) (giver_itself x)) e)
          | inr apart ↦ apart
        ]

    last_once : (xs : List Giver) → IsDistinct same_giver xs → has same_giver xs giver ≡ false
        → IsDistinct same_giver (xs ++ giver ∷ [])
    last_once [] d e = (tt, tt)
    last_once (x ∷ xs) d e =
        let p = or_parts (same_giver giver x) (has same_giver xs giver) e in
        (apart_last x xs d.0 (turned x p.0), last_once xs d.1 p.1)

    by : (b c : Bool) → has same_giver agenda.givers giver ≡ c
        → IsDistinct same_giver
        (let next : Awaited = if b && not c then with_next agenda giver else agenda in next.givers)
    by true true e = once
    by true false e = last_once agenda.givers once e
    by false c e = once

pub givers_once : (agenda : Awaited) (givers : List Giver) → IsDistinct same_giver agenda.givers
    → IsDistinct same_giver (with_givers agenda givers).givers
givers_once agenda [] once = once
givers_once agenda (giver ∷ givers) once = givers_once (added agenda giver) givers (added_once agenda giver once)

-- who is on the agenda then was there, or is one of those
pub added_are : (agenda : Awaited) (giver other : Giver) → has same_giver (added agenda giver).givers other ≡ true
    → (has same_giver agenda.givers other ≡ true) ⊎ ((other ≡ giver) × (is_of agenda giver ≡ true))
added_are agenda giver other =
    by (is_of agenda giver) (has same_giver agenda.givers giver) refl
  where
    by : (b c : Bool) → is_of agenda giver ≡ b
        → has same_giver
        (let next : Awaited = if b && not c then with_next agenda giver else agenda in next.givers) other ≡ true
        → (has same_giver agenda.givers other ≡ true) ⊎ ((other ≡ giver) × (is_of agenda giver ≡ true))
    by true true e h = inl h
    by true false e h =
        elim (has_either same_giver giver_exact giver_itself agenda.givers (giver ∷ []) other h) [
          | inl p ↦ inl p
          | inr p ↦ elim (has_cases same_giver giver_exact giver_itself giver [] other p) [
            | inl q ↦ inr (q, e)
            | inr q ↦ absurd (cc)
          ]
        ]
    by false c e h = inl h
