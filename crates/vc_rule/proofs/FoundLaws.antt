-- What is found is what the rule gives, each premise once.
use Rattle.std.proofs.Common.{◌≡◌, true, false, cond, not, List, [], ◌∷◌, ◌++◌, map, refl, ◌∙◌, ap}
use Rattle.std.specs.Prelude.{Option, None, Some, slice_get}
use Rattle.std.specs.List.{list_all, IsDistinct, AllByRecursion}
use Rattle.std.proofs.lemmas.Bool.{and_from}
use Rattle.vc_base.specs.Rounds.{atoms}
use Rattle.vc_base.specs.Sets.{has}
use Rattle.vc_base.proofs.SetLaws.{all_from}
use Rattle.vc_plan.specs.declared.atoms.Atom.{Atom}
use Rattle.vc_plan.specs.declared.atoms.Atom.TheVariants.{Here}
use Rattle.vc_plan.specs.declared.plans.Plan.{Plan}
use Rattle.vc_plan.specs.declared.rules.Kind.{Kind}
use Rattle.vc_plan.specs.declared.rules.Kind.TheVariants.{Among, Compare, Equate, ByTable, Never, Last, Line}
use Rattle.vc_plan.specs.declared.rules.Rule.{Rule}
use Rattle.vc_plan.specs.Answers.{nothing, fresh}
use Rattle.vc_plan.specs.Gives.{acts, kind_gives, rule_says}
use Rattle.vc_plan.specs.Restrictions.{among}
use Rattle.vc_plan.specs.Seen.{Seen, same_atom}
use Rattle.vc_plan.proofs.PlanLaws.Atoms.{atom_exact, atom_itself}
use Rattle.vc_rule_yield.specs.Yielding.{Conclusion}
use Rattle.vc_rule_premises.specs.Cited.{cited_once}
use Rattle.vc_rule_premises.specs.Citing.{why_it_acts}
use Rattle.vc_rule_premises.specs.Saying.{Said, clashing, concluding, silent, conclusion_with, said_with, given_of}
use Rattle.vc_rule_premises.specs.Sufficing.{each_premise}
use Rattle.vc_rule_premises.proofs.CitedLaws.{nothing_else_is_cited, each_is_cited_once}
use Rattle.vc_rule_premises.proofs.SayingLaws.{fresh_is_said}
use Rattle.vc_rule_grains.specs.Kinds.{why_among, why_last, parent_of}
use Rattle.vc_rule_grains.specs.Laws.{last_gives, line_gives}
use Rattle.vc_rule_sides.proofs.SaidLaws.{compare_is_said, equate_is_said}
use Rattle.vc_rule_table.proofs.SaidLaws.{table_is_said}
use Rattle.vc_rule.specs.Evaluating.{kind_said, found_by}
use Rattle.vc_rule.specs.Laws.{FoundIsGiven, EachList, FoundOnce, FoundBesideRoot}

-- with more cited first the same is given
given_with : (why : List Atom) (s : Said) → given_of (said_with why s) ≡ given_of s
given_with why (clashing premises) = refl
given_with why (concluding cs) = ap atoms (same cs)
  where
    same : (cs : List Conclusion) → map (λ (c : Conclusion). c.atom) (map (conclusion_with why) cs)
        ≡ map (λ (c : Conclusion). c.atom) cs
    same [] = refl
    same (c ∷ cs) = ap (λ xs. c.atom ∷ xs) (same cs)

kind_is_given : (plan : Plan) (seen : Seen) (rule : Rule) (kind : Kind)
    → given_of (kind_said plan seen rule kind) ≡ fresh seen (kind_gives plan seen rule kind)
kind_is_given plan seen rule (Among v restriction) =
    fresh_is_said seen (why_among plan seen rule v restriction) (among plan seen rule v restriction)
kind_is_given plan seen rule (Compare r a b) = compare_is_said plan seen rule r a b
kind_is_given plan seen rule (Equate a b) = equate_is_said plan seen rule a b
kind_is_given plan seen rule (ByTable table columns) = table_is_said plan seen rule table columns
kind_is_given plan seen rule Never = refl
kind_is_given plan seen rule (Last v) = fresh_is_said seen (why_last plan seen v) (last_gives plan v seen)
kind_is_given plan seen rule (Line i) = fresh_is_said seen (parent_of plan i) (line_gives plan i seen)

pub found_is_given : FoundIsGiven
found_is_given plan sources seen r = by (slice_get plan.rules r)
  where
    by : (o : Option Rule) → given_of (found_by plan seen o) ≡ fresh seen (rule_says plan seen o)
    by None = refl
    by (Some rule) =
        let why = why_it_acts plan seen rule in
        let said = kind_said plan seen rule rule.kind in
        elim (acts plan seen rule) as (λ b.
        given_of (cond b (said_with why said) silent)
        ≡ fresh seen (cond b (kind_gives plan seen rule rule.kind) nothing)) [
          | true ↦ given_with why said ∙ kind_is_given plan seen rule rule.kind
          | false ↦ refl
        ]

-- all lists of premises are cited once
once_with : (why : List Atom) (s : Said) → EachList (IsDistinct same_atom) (said_with why s)
once_with why (clashing premises) = each_is_cited_once (why ++ premises)
once_with why (concluding cs) = all_of cs
  where
    all_of : (cs : List Conclusion) → AllByRecursion (λ (c : Conclusion). IsDistinct same_atom c.premises)
        (map (conclusion_with why) cs)
    all_of [] = tt
    all_of (c ∷ cs) = (each_is_cited_once (why ++ c.premises), all_of cs)

pub found_once : FoundOnce
found_once plan seen r = by (slice_get plan.rules r)
  where
    by : (o : Option Rule) → EachList (IsDistinct same_atom) (found_by plan seen o)
    by None = tt
    by (Some rule) =
        elim (acts plan seen rule) as (λ b.
        EachList (IsDistinct same_atom) (cond b
        (said_with (why_it_acts plan seen rule) (kind_said plan seen rule rule.kind)) silent)) [
          | true ↦ once_with (why_it_acts plan seen rule) (kind_said plan seen rule rule.kind)
          | false ↦ tt
        ]

no_root : (premises : List Atom) → list_all (λ a. not (same_atom (Here 0) a)) (cited_once premises) ≡ true
no_root premises =
    all_from same_atom atom_exact atom_itself (λ a. not (same_atom (Here 0) a)) (cited_once premises)
    (λ a h. let k : (has same_atom premises a ≡ true) × (same_atom (Here 0) a ≡ false) =
    nothing_else_is_cited premises a h in ap not k.1)

root_with : (why : List Atom) (s : Said) → each_premise (λ a. not (same_atom (Here 0) a)) (said_with why s) ≡ true
root_with why (clashing premises) = no_root (why ++ premises)
root_with why (concluding cs) = all_of cs
  where
    all_of : (cs : List Conclusion) → list_all
        (λ (c : Conclusion). list_all (λ a. not (same_atom (Here 0) a)) c.premises) (map (conclusion_with why) cs)
        ≡ true
    all_of [] = refl
    all_of (c ∷ cs) =
        and_from (list_all (λ a. not (same_atom (Here 0) a)) (cited_once (why ++ c.premises)))
        (list_all (λ (c : Conclusion). list_all (λ a. not (same_atom (Here 0) a)) c.premises)
        (map (conclusion_with why) cs))
        (no_root (why ++ c.premises)) (all_of cs)

pub found_beside_root : FoundBesideRoot
found_beside_root plan seen r = by (slice_get plan.rules r)
  where
    by : (o : Option Rule) → each_premise (λ a. not (same_atom (Here 0) a)) (found_by plan seen o) ≡ true
    by None = refl
    by (Some rule) =
        elim (acts plan seen rule) as (λ b.
        each_premise (λ a. not (same_atom (Here 0) a))
        (cond b (said_with (why_it_acts plan seen rule) (kind_said plan seen rule rule.kind)) silent) ≡ true) [
          | true ↦ root_with (why_it_acts plan seen rule) (kind_said plan seen rule rule.kind)
          | false ↦ refl
        ]
