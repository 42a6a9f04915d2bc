-- Tests that all premises pass.
use Rattle.std.proofs.Common.{◌≡◌, ℕ, Bool, true, false, cond, ◌&&◌, List, [], ◌∷◌, ◌++◌, map, refl, ◌∙◌, subst}
use Rattle.std.specs.Prelude.{Option, None, Some, slice_get, min, is_none}
use Rattle.std.specs.List.{filter, list_all, AllByRecursion}
use Rattle.std.proofs.lemmas.Bool.{and_parts, and_from}
use Rattle.std.proofs.lemmas.List.Folds.{list_all-append}
use Rattle.vc_base.specs.Sets.{has}
use Rattle.vc_base.proofs.SetLaws.{all_at, all_from}
use Rattle.vc_value.specs.declared.value.Value.{Value}
use Rattle.vc_plan.specs.declared.atoms.Atom.{Atom}
use Rattle.vc_plan.specs.declared.atoms.Atom.TheVariants.{Here, Out, Is}
use Rattle.vc_plan.specs.declared.conditions.Piece.{Piece}
use Rattle.vc_plan.specs.declared.conditions.Relation.{Relation}
use Rattle.vc_plan.specs.declared.plans.Plan.{Plan}
use Rattle.vc_plan.specs.declared.rules.Rule.{Rule}
use Rattle.vc_plan.specs.declared.terms.Term.{Term}
use Rattle.vc_plan.specs.declared.terms.Term.TheVariants.{Literal, Read, PartSum, PartCount, Applied', Joined'}
use Rattle.vc_plan.specs.Answers.{value_atoms}
use Rattle.vc_plan.specs.Domains.{numbers_below, count_of, is_restrictable, is_grain_with}
use Rattle.vc_plan.specs.Kleene.{is_false}
use Rattle.vc_plan.specs.Pieces.{turned}
use Rattle.vc_plan.specs.Readings.{net_reading}
use Rattle.vc_plan.specs.Reads.{vars_of_term}
use Rattle.vc_plan.specs.Restrictions.{confined, is_inferred, lone_in, lone, if_inferred, lone_inferred, equal_to}
use Rattle.vc_plan.specs.Restrictions.{decimals_in_side, differ}
use Rattle.vc_plan.specs.Seen.{Seen, same_atom}
use Rattle.vc_plan.specs.Truth.{compared, value_at}
use Rattle.vc_plan.proofs.PlanLaws.Atoms.{atom_exact, atom_itself}
use Rattle.vc_plan_reasons.specs.Things.{vars_of_sides}
use Rattle.vc_rule_yield.specs.Yielding.{Conclusion}
use Rattle.vc_rule_premises.specs.Cited.{cited_once}
use Rattle.vc_rule_premises.specs.Citing.{value_of, values_of}
use Rattle.vc_rule_premises.specs.Saying.{Said, clashing, concluding, together, clash_when, conclusion_with, said_from}
use Rattle.vc_rule_premises.specs.Saying.{said_with}
use Rattle.vc_rule_premises.specs.Sufficing.{each_premise}
use Rattle.vc_rule_premises.proofs.CitedLaws.{nothing_else_is_cited}
use Rattle.vc_rule_premises.proofs.SufficingLaws.{each_from}
use Rattle.vc_rule_grains.specs.Confining.{why_left_by, why_left, why_confined}
use Rattle.vc_rule_sides.specs.Comparing.{values_in, may_relate, related_said, compare_said}
use Rattle.vc_rule_sides.specs.Equating.{equate_said}

-- what two lists pass, both together pass
pub both_pass : (test : Atom → Bool) (xs ys : List Atom) → list_all test xs ≡ true → list_all test ys ≡ true
    → list_all test (xs ++ ys) ≡ true
both_pass test xs ys p q = list_all-append test xs ys ∙ and_from (list_all test xs) (list_all test ys) p q

-- what a list passes, what is cited of it passes
cited_pass : (test : Atom → Bool) (xs : List Atom) → list_all test xs ≡ true → list_all test (cited_once xs) ≡ true
cited_pass test xs e =
    all_from same_atom atom_exact atom_itself test (cited_once xs)
    (λ a h. let k : (has same_atom xs a ≡ true) × (same_atom (Here 0) a ≡ false) = nothing_else_is_cited xs a h in
    all_at same_atom atom_exact atom_itself test xs a e k.0)

-- so does what is said with more cited first
pub each_with : (test : Atom → Bool) (why : List Atom) (s : Said) → list_all test why ≡ true
    → each_premise test s ≡ true
    → each_premise test (said_with why s) ≡ true
each_with test why (clashing premises) p q = cited_pass test (why ++ premises) (both_pass test why premises p q)
each_with test why (concluding cs) p q = all_of cs q
  where
    all_of : (cs : List Conclusion) → list_all (λ (c : Conclusion). list_all test c.premises) cs ≡ true
        → list_all (λ (c : Conclusion). list_all test c.premises) (map (conclusion_with why) cs) ≡ true
    all_of [] h = refl
    all_of (c ∷ cs) h =
        let k : (list_all test c.premises ≡ true)
        × (list_all (λ (c : Conclusion). list_all test c.premises) cs ≡ true) =
        and_parts (list_all test c.premises) (list_all (λ (c : Conclusion). list_all test c.premises) cs) h in
        and_from (list_all test (cited_once (why ++ c.premises)))
        (list_all (λ (c : Conclusion). list_all test c.premises) (map (conclusion_with why) cs))
        (cited_pass test (why ++ c.premises) (both_pass test why c.premises p k.0)) (all_of cs k.1)

-- and what is said together
each_together : (test : Atom → Bool) (s t : Said) → each_premise test s ≡ true → each_premise test t ≡ true
    → each_premise test (together s t) ≡ true
each_together test (clashing premises) t p q = p
each_together test (concluding cs) (clashing premises) p q = q
each_together test (concluding cs) (concluding ds) p q =
    list_all-append (λ (c : Conclusion). list_all test c.premises) cs ds
    ∙ and_from (list_all (λ (c : Conclusion). list_all test c.premises) cs)
    (list_all (λ (c : Conclusion). list_all test c.premises) ds) p q

each_when : (test : Atom → Bool) (b : Bool) (premises : List Atom) (s : Said) → list_all test premises ≡ true
    → each_premise test s ≡ true
    → each_premise test (clash_when b premises s) ≡ true
each_when test true premises s p q = p
each_when test false premises s p q = q

-- whether all that stands of a variable passes
abbrev pub VarPasses : (Atom → Bool) → Seen → ℕ → Type 0
VarPasses test seen v = ((g : ℕ) → seen.out v g ≡ true → test (Out v g) ≡ true)
    × ((a : Value) → seen.value v ≡ Some a → test (Is v a) ≡ true)

abbrev pub VarsPass : (Atom → Bool) → Seen → List ℕ → Type 0
VarsPass test seen vs = AllByRecursion (VarPasses test seen) vs

value_passes : (test : Atom → Bool) (seen : Seen) (v : ℕ) → VarPasses test seen v
    → list_all test (value_of seen v) ≡ true
value_passes test seen v p = by (seen.value v) refl
  where
    by : (o : Option Value) → seen.value v ≡ o → list_all test (value_atoms v o) ≡ true
    by None e = refl
    by (Some a) e = and_from (test (Is v a)) true (p.1 a e) refl

pub values_pass : (test : Atom → Bool) (seen : Seen) (vs : List ℕ) → VarsPass test seen vs
    → list_all test (values_of seen vs) ≡ true
values_pass test seen [] p = refl
values_pass test seen (v ∷ vs) p = both_pass test (value_of seen v) (values_of seen vs) (value_passes test seen v p.0)
    (values_pass test seen vs p.1)

vars_front : (test : Atom → Bool) (seen : Seen) (vs ws : List ℕ) → VarsPass test seen (vs ++ ws) → VarsPass test seen vs
vars_front test seen [] ws p = tt
vars_front test seen (v ∷ vs) ws p = (p.0, vars_front test seen vs ws p.1)

vars_back : (test : Atom → Bool) (seen : Seen) (vs ws : List ℕ) → VarsPass test seen (vs ++ ws) → VarsPass test seen ws
vars_back test seen [] ws p = p
vars_back test seen (v ∷ vs) ws p = vars_back test seen vs ws p.1

-- why a variable's grains are left
outs_pass : (test : Atom → Bool) (seen : Seen) (v : ℕ) (pass : ℕ → Bool) → VarPasses test seen v → (gs : List ℕ)
    → list_all test (map (Out v) (filter (λ g. seen.out v g && pass g) gs)) ≡ true
outs_pass test seen v pass p [] = refl
outs_pass test seen v pass p (g ∷ gs) = step (seen.out v g) (pass g) refl (outs_pass test seen v pass p gs)
  where
    step : (o q : Bool) → seen.out v g ≡ o → list_all test (map (Out v) (filter (λ n. seen.out v n && pass n) gs))
        ≡ true
        → list_all test (map (Out v) (cond (o && q) (g ∷ filter (λ n. seen.out v n && pass n) gs)
        (filter (λ n. seen.out v n && pass n) gs))) ≡ true
    step true true e all = and_from (test (Out v g))
        (list_all test (map (Out v) (filter (λ n. seen.out v n && pass n) gs))) (p.0 g e) all
    step true false e all = all
    step false q e all = all

confined_passes : (test : Atom → Bool) (plan : Plan) (seen : Seen) (v : ℕ) (piece : Piece → Bool)
    → VarPasses test seen v
    → list_all test (why_confined plan seen v piece) ≡ true
confined_passes test plan seen v piece p = by (is_restrictable plan v)
  where
    left_by : (o : Option Value) → seen.value v ≡ o → list_all test (why_left_by plan seen v piece o) ≡ true
    left_by None e = outs_pass test seen v (is_grain_with plan v piece) p (numbers_below (count_of plan v))
    left_by (Some a) e = and_from (test (Is v a)) true (p.1 a e) refl

    by : (b : Bool) → list_all test (cond b [] (why_left plan seen v piece)) ≡ true
    by true = refl
    by false = left_by (seen.value v) refl

-- a side that is one variable alone reads that
lone_passes : (test : Atom → Bool) (seen : Seen) (o : Option Term) (v : ℕ) → lone_in o ≡ Some v
    → VarsPass test seen (vars_of_term o) → VarPasses test seen v
lone_passes test seen None v e p = absurd (cc)
lone_passes test seen (Some (Literal a)) v e p = absurd (cc)
lone_passes test seen (Some (Read w)) v e p = subst (VarPasses test seen) (some_is w v e) p.0
  where
    some_is : (w v : ℕ) → Some w ≡ Some v → w ≡ v
    some_is w v e = cc
lone_passes test seen (Some (PartSum slot characteristic)) v e p = absurd (cc)
lone_passes test seen (Some (PartCount slot)) v e p = absurd (cc)
lone_passes test seen (Some (Applied' function q a)) v e p = absurd (cc)
lone_passes test seen (Some (Joined' operator q a s b)) v e p = absurd (cc)

inferred_is : (rule : Rule) (o : Option ℕ) (v : ℕ) → if_inferred rule o ≡ Some v → o ≡ Some v
inferred_is rule None v e = absurd (cc)
inferred_is rule (Some w) v e = by (is_inferred rule w) e
  where
    by : (b : Bool) → cond b (Some w) None ≡ Some v → Some w ≡ Some v
    by true k = k
    by false k = absurd (cc)

related_passes : (test : Atom → Bool) (plan : Plan) (seen : Seen) (r : Relation) (v : Option ℕ) (others : List Atom)
    (a : Option Value)
    → ((w : ℕ) → v ≡ Some w → VarPasses test seen w) → list_all test others ≡ true
    → each_premise test (related_said plan seen r v others a) ≡ true
related_passes test plan seen r None others a f p = refl
related_passes test plan seen r (Some v) others None f p = refl
related_passes test plan seen r (Some v) others (Some a) f p =
    each_from test seen (others ++ why_confined plan seen v (may_relate r a)) (confined plan seen v (may_relate r a))
    (both_pass test others (why_confined plan seen v (may_relate r a)) p
    (confined_passes test plan seen v (may_relate r a) (f v refl)))

pub compare_passes : (test : Atom → Bool) (plan : Plan) (seen : Seen) (rule : Rule) (r : Relation) (a b : ℕ)
    → VarsPass test seen (vars_of_sides plan a b)
    → each_premise test (compare_said plan seen rule r a b) ≡ true
compare_passes test plan seen rule r a b p =
    let first = value_at plan (net_reading seen) a in
    let second = value_at plan (net_reading seen) b in
    let s = vars_of_term (slice_get plan.terms a) in
    let t = vars_of_term (slice_get plan.terms b) in
    let of_a = values_pass test seen s (vars_front test seen s t p) in
    let of_b = values_pass test seen t (vars_back test seen s t p) in
    let v = lone_inferred plan rule a in
    let w = lone_inferred plan rule b in
    each_when test (is_false (compared r first second)) (values_in plan seen a ++ values_in plan seen b)
    (together (related_said plan seen r v (values_in plan seen b) second)
    (related_said plan seen (turned r) w (values_in plan seen a) first))
    (both_pass test (values_in plan seen a) (values_in plan seen b) of_a of_b)
    (each_together test (related_said plan seen r v (values_in plan seen b) second)
    (related_said plan seen (turned r) w (values_in plan seen a) first)
    (related_passes test plan seen r v (values_in plan seen b) second
    (λ x e. lone_passes test seen (slice_get plan.terms a) x (inferred_is rule (lone plan a) x e)
    (vars_front test seen s t p)) of_b)
    (related_passes test plan seen (turned r) w (values_in plan seen a) first
    (λ x e. lone_passes test seen (slice_get plan.terms b) x (inferred_is rule (lone plan b) x e)
    (vars_back test seen s t p)) of_a))

pub equate_passes : (test : Atom → Bool) (plan : Plan) (seen : Seen) (rule : Rule) (a b : ℕ)
    → VarsPass test seen (vars_of_sides plan a b)
    → each_premise test (equate_said plan seen rule a b) ≡ true
equate_passes test plan seen rule a b p =
    let first = value_at plan (net_reading seen) a in
    let second = value_at plan (net_reading seen) b in
    let s = vars_of_term (slice_get plan.terms a) in
    let t = vars_of_term (slice_get plan.terms b) in
    let of_a = values_pass test seen s (vars_front test seen s t p) in
    let of_b = values_pass test seen t (vars_back test seen s t p) in
    let v = lone_inferred plan rule a in
    let w = lone_inferred plan rule b in
    let decimals = min (decimals_in_side plan (lone plan a)) (decimals_in_side plan (lone plan b)) in
    each_when test ((is_none v && is_none w) && differ decimals first second)
    (values_in plan seen a ++ values_in plan seen b)
    (together (said_from seen (values_in plan seen b) (equal_to plan v second))
    (said_from seen (values_in plan seen a) (equal_to plan w first)))
    (both_pass test (values_in plan seen a) (values_in plan seen b) of_a of_b)
    (each_together test (said_from seen (values_in plan seen b) (equal_to plan v second))
    (said_from seen (values_in plan seen a) (equal_to plan w first))
    (each_from test seen (values_in plan seen b) (equal_to plan v second) of_b)
    (each_from test seen (values_in plan seen a) (equal_to plan w first) of_a))
