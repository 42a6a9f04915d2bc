-- In a clear set the rule of a variable's last grain says nothing new where the variable has a value: a grain alone
-- that isn't out is the value's.
use Rattle.std.proofs.Common.{◌≡◌, ℕ, ◌<◌, Bool, true, false, cond, not, ◌==◌, List, [], ◌∷◌}
use Rattle.std.proofs.Common.{refl, sym, ◌∙◌, ap, subst, inl, inr, arith}
use Rattle.std.specs.Prelude.{Option, None, Some, is_some, nat_eq, slice_get}
use Rattle.std.specs.List.{filter}
use Rattle.std.proofs.lemmas.Bool.{and_from, eq-eqb, false_from_ne_true, not_from_false}
use Rattle.vc_base.specs.Rounds.{atoms}
use Rattle.vc_base.specs.Sets.{has}
use Rattle.vc_base.proofs.ChainLaws.{get_below}
use Rattle.vc_base.proofs.ListLaws.{number_exact, number_itself, range_has}
use Rattle.vc_base.proofs.SetLaws.{both, filter_has, has_cases}
use Rattle.vc_value.specs.declared.value.Value.{Value}
use Rattle.vc_plan.specs.declared.atoms.Atom.{Atom}
use Rattle.vc_plan.specs.declared.atoms.Atom.TheVariants.{Out, Is}
use Rattle.vc_plan.specs.declared.conditions.Piece.{Piece}
use Rattle.vc_plan.specs.declared.plans.Plan.{Plan}
use Rattle.vc_plan.specs.declared.rules.Kind.{Kind}
use Rattle.vc_plan.specs.declared.rules.Kind.TheVariants.{Among, Compare, Equate, ByTable, Never, Last, Line}
use Rattle.vc_plan.specs.declared.rules.Rule.{Rule}
use Rattle.vc_plan.specs.Answers.{fresh, last_atoms, nothing, value_atoms, value_of_piece}
use Rattle.vc_plan.specs.Clear.{is_clear}
use Rattle.vc_plan.specs.Domains.{count_of, grains_of, is_grain_with, numbers_below, passes}
use Rattle.vc_plan.specs.Gives.{acts, kind_gives, not_out, rule_says}
use Rattle.vc_plan.specs.Pieces.{lies_in, one_value, same_value}
use Rattle.vc_plan.specs.Seen.{is_here, is_value, same_atom, says, seen_of, value_in}
use Rattle.vc_plan.proofs.PlanLaws.Atoms.{value_itself}
use Rattle.vc_plan.proofs.PlanLaws.Extending.{value_has}
use Rattle.vc_plan.proofs.PlanLaws.Facts.{Facts, facts}
use Rattle.vc_plan_reasons.specs.Checking.{is_silent}
use Rattle.vc_plan_blame.proofs.BlameLaws.Named.{one_in_piece}
use Rattle.vc_plan_blame.proofs.BlameLaws.Unclear.{any_place}
use Rattle.vc_net_sources.specs.Asking.{is_last_of_known}

module _
    (plan : Plan) (set : List Atom) (v : ℕ) (a : Value) (clear : is_clear plan set ≡ true)
    (is : value_in set v ≡ Some a)
  where
    f : Facts plan set
    f = facts plan set clear

    stands : has same_atom set (Is v a) ≡ true
    stands = value_has set v a is

    -- a grain that holds the value isn't out
    is_left : (g : ℕ) → is_grain_with plan v (lies_in a) g ≡ true → has same_atom set (Out v g) ≡ false
    is_left g holds =
        false_from_ne_true (has same_atom set (Out v g))
        (λ k. both (and_from (v == v) (is_grain_with plan v (lies_in a) g) (eq-eqb v v refl) holds)
        (f.apart (Is v a) (Out v g) stands k))

    -- so where one alone isn't out it holds the value
    holds_it : (g : ℕ) → not_out plan (seen_of set) v ≡ g ∷ [] → is_grain_with plan v (lies_in a) g ≡ true
    holds_it g one =
        let r = any_place (lies_in a) (grains_of plan v) (f.named (Is v a) stands) in
        let holds : is_grain_with plan v (lies_in a) r.0 ≡ true = ap (passes (lies_in a)) r.2 ∙ r.3 in
        let below : r.0 < count_of plan v = get_below (grains_of plan v) r.0 r.1 r.2 in
        let kept : has nat_eq (not_out plan (seen_of set) v) r.0 ≡ true
        = filter_has nat_eq number_exact number_itself (λ g. not (has same_atom set (Out v g)))
        (numbers_below (count_of plan v)) r.0
        (range_has 0 (count_of plan v) r.0 (omega arith) (omega (arith, below)))
        (not_from_false (has same_atom set (Out v r.0)) (is_left r.0 holds)) in
        let alone : has nat_eq (g ∷ []) r.0 ≡ true = ap (λ xs. has nat_eq xs r.0) (sym one) ∙ kept in
        elim (has_cases nat_eq number_exact number_itself g [] r.0 alone) [
          | inl q ↦ subst (λ n. is_grain_with plan v (lies_in a) n ≡ true) q holds
          | inr q ↦ absurd (cc)
        ]

    -- a value alone in the grain that holds the value is that value
    none_new : (o : Option Piece) → passes (lies_in a) o ≡ true
        → filter (λ b. not (says (seen_of set) b)) (value_atoms v (value_of_piece o)) ≡ []
    none_new None e = refl
    none_new (Some piece) e = by (one_value piece) refl
      where
        by : (o : Option Value) → one_value piece ≡ o
            → filter (λ b. not (says (seen_of set) b)) (value_atoms v o) ≡ []
        by None q = refl
        by (Some x) q =
            ap (λ b. cond (not b) (Is v x ∷ []) [])
            (ap (is_value x) is ∙ (ap (same_value x) (one_in_piece a x piece e q) ∙ value_itself x))

    nothing_new : (gs : List ℕ) → not_out plan (seen_of set) v ≡ gs
        → filter (λ b. not (says (seen_of set) b)) (last_atoms plan v gs) ≡ []
    nothing_new [] e = refl
    nothing_new (g ∷ []) e = none_new (slice_get (grains_of plan v) g) (holds_it g e)
    nothing_new (g ∷ (h ∷ more)) e = refl

    pub last_silent : (acting here : Bool)
        → is_silent (fresh (seen_of set)
        (cond acting (atoms (cond here (last_atoms plan v (not_out plan (seen_of set) v)) [])) nothing)) ≡ true
    last_silent true true = ap (λ xs. is_silent (atoms xs)) (nothing_new (not_out plan (seen_of set) v) refl)
    last_silent true false = refl
    last_silent false here = refl

pub known_is_silent : (plan : Plan) (set : List Atom) (rule : Rule) → is_clear plan set ≡ true
    → is_last_of_known (seen_of set) rule.kind ≡ true
    → is_silent (fresh (seen_of set) (rule_says plan (seen_of set) (Some rule))) ≡ true
known_is_silent plan set rule clear known = by rule.kind refl known
  where
    with_kind : Kind → Bool
    with_kind kind =
        is_silent (fresh (seen_of set)
        (cond (acts plan (seen_of set) rule) (kind_gives plan (seen_of set) rule kind) nothing))

    at : (v : ℕ) (o : Option Value) → value_in set v ≡ o → is_some o ≡ true → with_kind (Last v) ≡ true
    at v None is e = absurd (cc)
    at v (Some a) is e =
        last_silent plan set v a clear is (acts plan (seen_of set) rule) (is_here plan (seen_of set) v)

    by : (kind : Kind) → rule.kind ≡ kind → is_last_of_known (seen_of set) kind ≡ true
        → with_kind rule.kind ≡ true
    by (Among v restriction) is e = absurd (cc)
    by (Compare r a b) is e = absurd (cc)
    by (Equate a b) is e = absurd (cc)
    by (ByTable table columns) is e = absurd (cc)
    by Never is e = absurd (cc)
    by (Last v) is e = ap with_kind is ∙ at v (value_in set v) refl e
    by (Line i) is e = absurd (cc)
