-- Each premise of what is found is of what the rule reads.
use Rattle.std.proofs.Common.{◌≡◌, ℕ, Bool, true, false, cond, ◌||◌, List, [], ◌∷◌, ◌++◌, map, refl, sym, subst, inl}
use Rattle.std.proofs.Common.{inr}
use Rattle.std.specs.Prelude.{Option, None, Some, slice_get, nat_eq}
use Rattle.std.specs.List.{list_all}
use Rattle.std.proofs.lemmas.Bool.{and_parts, and_from}
use Rattle.std.proofs.lemmas.List.{map-append}
use Rattle.vc_base.specs.Sets.{has, Within}
use Rattle.vc_base.proofs.ListLaws.{number_exact, number_itself}
use Rattle.vc_base.proofs.SetLaws.{has_either, has_front, has_back, has_more, has_first}
use Rattle.vc_plan.specs.declared.atoms.Atom.{Atom}
use Rattle.vc_plan.specs.declared.atoms.Atom.TheVariants.{Here}
use Rattle.vc_plan.specs.declared.conditions.Condition.{Condition}
use Rattle.vc_plan.specs.declared.plans.Plan.{Plan}
use Rattle.vc_plan.specs.declared.rules.Kind.{Kind}
use Rattle.vc_plan.specs.declared.rules.Kind.TheVariants.{Among, Compare, Equate, ByTable, Never, Last, Line}
use Rattle.vc_plan.specs.declared.rules.Rule.{Rule}
use Rattle.vc_plan.specs.Gives.{acts}
use Rattle.vc_plan.specs.Reads.{vars_of_condition}
use Rattle.vc_plan.specs.Seen.{Seen}
use Rattle.vc_plan_reasons.specs.Things.{Thing, slot_at, var_at, same_thing, has_thing, thing_of, parents_of}
use Rattle.vc_plan_reasons.specs.Things.{vars_of_sides, vars_of_kind, slots_of_kind, rule_reads, reads_in}
use Rattle.vc_plan_reasons.proofs.ReasonLaws.Reaching.{thing_exact, thing_itself}
use Rattle.vc_rule_yield.specs.Yielding.{Conclusion}
use Rattle.vc_rule_premises.specs.Citing.{values_of, deciding_if, why_it_acts}
use Rattle.vc_rule_premises.specs.Saying.{Said, clashing, concluding, silent, said_with}
use Rattle.vc_rule_premises.specs.Sufficing.{each_premise}
use Rattle.vc_rule_premises.proofs.DecidingLaws.{deciding_is_read}
use Rattle.vc_rule_grains.proofs.KindLaws.{among_is_read, last_is_read, line_is_read}
use Rattle.vc_rule_table.proofs.ReadLaws.{table_is_read}
use Rattle.vc_rule.specs.Evaluating.{kind_said, found_by}
use Rattle.vc_rule.specs.Laws.{FoundIsRead}
use Rattle.vc_rule.proofs.PassingLemmas.{VarsPass, both_pass, each_with, values_pass, compare_passes, equate_passes}

-- whether an atom is of one of the things
abbrev is_of : List Thing → Atom → Bool
is_of things a = has_thing things (thing_of a)

-- what passes a test passes a wider one
all_more : (p q : Atom → Bool) → ((a : Atom) → p a ≡ true → q a ≡ true) → (xs : List Atom) → list_all p xs ≡ true
    → list_all q xs ≡ true
all_more p q f [] e = refl
all_more p q f (x ∷ xs) e =
    let h : (p x ≡ true) × (list_all p xs ≡ true) = and_parts (p x) (list_all p xs) e in
    and_from (q x) (list_all q xs) (f x h.0) (all_more p q f xs h.1)

each_more : (p q : Atom → Bool) → ((a : Atom) → p a ≡ true → q a ≡ true) → (s : Said) → each_premise p s ≡ true
    → each_premise q s ≡ true
each_more p q f (clashing premises) e = all_more p q f premises e
each_more p q f (concluding cs) e = all_of cs e
  where
    all_of : (cs : List Conclusion) → list_all (λ (c : Conclusion). list_all p c.premises) cs ≡ true
        → list_all (λ (c : Conclusion). list_all q c.premises) cs ≡ true
    all_of [] h = refl
    all_of (c ∷ cs) h =
        let k : (list_all p c.premises ≡ true) × (list_all (λ (c : Conclusion). list_all p c.premises) cs ≡ true) =
        and_parts (list_all p c.premises) (list_all (λ (c : Conclusion). list_all p c.premises) cs) h in
        and_from (list_all q c.premises) (list_all (λ (c : Conclusion). list_all q c.premises) cs)
        (all_more p q f c.premises k.0) (all_of cs k.1)

-- a variable of a list is among the list's things
var_has : (vs : List ℕ) (v : ℕ) → has nat_eq vs v ≡ true → has_thing (map var_at vs) (var_at v) ≡ true
var_has [] v e = e
var_has (w ∷ vs) v e = more (nat_eq v w) e (var_has vs v)
  where
    more : (b : Bool) → (b || has nat_eq vs v) ≡ true
        → (has nat_eq vs v ≡ true → has_thing (map var_at vs) (var_at v) ≡ true)
        → (b || has_thing (map var_at vs) (var_at v)) ≡ true
    more true k f = refl
    more false k f = f k

-- variables that are all among things
vars_of : (things : List Thing) (seen : Seen) (vs : List ℕ)
    → ((v : ℕ) → has nat_eq vs v ≡ true → has_thing things (var_at v) ≡ true)
    → VarsPass (is_of things) seen vs
vars_of things seen [] f = tt
vars_of things seen (v ∷ vs) f =
    let there : has_thing things (var_at v) ≡ true = f v (has_first nat_eq number_exact number_itself v vs) in (
      (λ g e. there, λ a e. there),
      vars_of things seen vs (λ w h. f w (has_more nat_eq number_exact number_itself v vs w h)),
    )

slots_of : (things : List Thing) (is : List ℕ) → Within same_thing (map slot_at is) things
    → list_all (is_of things) (map Here is) ≡ true
slots_of things [] f = refl
slots_of things (i ∷ is) f =
    and_from (has_thing things (slot_at i)) (list_all (is_of things) (map Here is))
    (f (slot_at i) (has_first same_thing thing_exact thing_itself (slot_at i) (map slot_at is)))
    (slots_of things is (λ a h. f a (has_more same_thing thing_exact thing_itself (slot_at i) (map slot_at is) a h)))

-- what a kind reads
abbrev kind_things : Plan → Kind → List Thing
kind_things plan kind = map slot_at (slots_of_kind plan kind) ++ map var_at (vars_of_kind plan kind)

kind_is_read : (plan : Plan) (seen : Seen) (rule : Rule) (kind : Kind)
    → each_premise (is_of (kind_things plan kind)) (kind_said plan seen rule kind) ≡ true
kind_is_read plan seen rule (Among v restriction) = among_is_read plan seen rule v restriction
kind_is_read plan seen rule (Compare r a b) =
    let vs = vars_of_sides plan a b in
    compare_passes (is_of (map var_at vs)) plan seen rule r a b
    (vars_of (map var_at vs) seen vs (λ v h. var_has vs v h))
kind_is_read plan seen rule (Equate a b) =
    let vs = vars_of_sides plan a b in
    equate_passes (is_of (map var_at vs)) plan seen rule a b (vars_of (map var_at vs) seen vs (λ v h. var_has vs v h))
kind_is_read plan seen rule (ByTable table columns) = table_is_read plan seen rule table columns
kind_is_read plan seen rule Never = refl
kind_is_read plan seen rule (Last v) = last_is_read plan seen v
kind_is_read plan seen rule (Line i) =
    each_more (is_of (map slot_at (parents_of plan i))) (is_of (map slot_at (parents_of plan i) ++ []))
    (λ a h. has_front same_thing thing_exact thing_itself (map slot_at (parents_of plan i)) [] (thing_of a) h)
    (kind_said plan seen rule (Line i)) (line_is_read plan seen i)

-- the rule reads that too
module _ (plan : Plan) (rule : Rule) where
  abbrev slots : List ℕ
  slots = rule.slots

  abbrev vars : List ℕ
  vars = vars_of_condition (slice_get plan.conditions rule.condition)

  abbrev front : List Thing
  front = map slot_at (slots ++ slots_of_kind plan rule.kind)

  abbrev back : List Thing
  back = map var_at (vars ++ vars_of_kind plan rule.kind)

  reads_slot : (thing : Thing) → has_thing (map slot_at slots) thing ≡ true
      → has_thing (rule_reads plan rule) thing ≡ true
  reads_slot thing h =
      has_front same_thing thing_exact thing_itself front back thing
      (subst (λ things. has_thing things thing ≡ true) (sym (map-append slot_at slots (slots_of_kind plan rule.kind)))
      (has_front same_thing thing_exact thing_itself (map slot_at slots)
      (map slot_at (slots_of_kind plan rule.kind)) thing h))

  reads_var : (thing : Thing) → has_thing (map var_at vars) thing ≡ true → has_thing (rule_reads plan rule) thing ≡ true
  reads_var thing h =
      has_back same_thing thing_exact thing_itself front back thing
      (subst (λ things. has_thing things thing ≡ true) (sym (map-append var_at vars (vars_of_kind plan rule.kind)))
      (has_front same_thing thing_exact thing_itself (map var_at vars)
      (map var_at (vars_of_kind plan rule.kind)) thing h))

  reads_kind : (thing : Thing) → has_thing (kind_things plan rule.kind) thing ≡ true
      → has_thing (rule_reads plan rule) thing ≡ true
  reads_kind thing h =
      elim (has_either same_thing thing_exact thing_itself (map slot_at (slots_of_kind plan rule.kind))
      (map var_at (vars_of_kind plan rule.kind)) thing h) [
        | inl k ↦ has_front same_thing thing_exact thing_itself front back thing
            (subst (λ things. has_thing things thing ≡ true)
            (sym (map-append slot_at slots (slots_of_kind plan rule.kind)))
            (has_back same_thing thing_exact thing_itself (map slot_at slots)
            (map slot_at (slots_of_kind plan rule.kind)) thing k))
        | inr k ↦ has_back same_thing thing_exact thing_itself front back thing
            (subst (λ things. has_thing things thing ≡ true)
            (sym (map-append var_at vars (vars_of_kind plan rule.kind)))
            (has_back same_thing thing_exact thing_itself (map var_at vars)
            (map var_at (vars_of_kind plan rule.kind)) thing k))
      ]

  acting_is_read : (seen : Seen) → list_all (is_of (rule_reads plan rule)) (why_it_acts plan seen rule) ≡ true
  acting_is_read seen =
      both_pass (is_of (rule_reads plan rule)) (map Here rule.slots)
      (values_of seen (deciding_if seen (slice_get plan.conditions rule.condition)))
      (slots_of (rule_reads plan rule) rule.slots (λ thing h. reads_slot thing h))
      (values_pass (is_of (rule_reads plan rule)) seen (deciding_if seen (slice_get plan.conditions rule.condition))
      (vars_of (rule_reads plan rule) seen (deciding_if seen (slice_get plan.conditions rule.condition))
      (λ v h. reads_var (var_at v) (var_has vars v (condition_read (slice_get plan.conditions rule.condition) v h)))))
    where
      condition_read : (o : Option Condition) → Within nat_eq (deciding_if seen o) (vars_of_condition o)
      condition_read None v h = h
      condition_read (Some c) v h = deciding_is_read seen true c v h

pub found_is_read : FoundIsRead
found_is_read plan seen r = by (slice_get plan.rules r)
  where
    acting : (rule : Rule) (b : Bool)
        → each_premise (is_of (rule_reads plan rule))
        (cond b (said_with (why_it_acts plan seen rule) (kind_said plan seen rule rule.kind)) silent) ≡ true
    acting rule true =
        each_with (is_of (rule_reads plan rule)) (why_it_acts plan seen rule) (kind_said plan seen rule rule.kind)
        (acting_is_read plan rule seen)
        (each_more (is_of (kind_things plan rule.kind)) (is_of (rule_reads plan rule))
        (λ a h. reads_kind plan rule (thing_of a) h)
        (kind_said plan seen rule rule.kind) (kind_is_read plan seen rule rule.kind))
    acting rule false = refl

    by : (o : Option Rule) → each_premise (is_of (reads_in plan o)) (found_by plan seen o) ≡ true
    by None = refl
    by (Some rule) = acting rule (acts plan seen rule)
