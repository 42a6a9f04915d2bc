-- A giver whose trigger doesn't stand gives nothing.
use Rattle.std.proofs.Common.{◌≡◌, ℕ, Bool, true, false, cond, ◌&&◌, List, refl, sym, ◌∙◌, ap}
use Rattle.std.specs.Prelude.{Option, None, Some, slice_get}
use Rattle.std.specs.List.{list_all}
use Rattle.std.specs.Ordering.{int_eq}
use Rattle.std.proofs.lemmas.Bool.{and_parts}
use Rattle.vc_base.specs.Sets.{has}
use Rattle.vc_base.proofs.SetLaws.{both}
use Rattle.vc_value.specs.declared.value.Value.{Value}
use Rattle.vc_value.specs.declared.value.Value.TheVariants.{Text, Num}
use Rattle.vc_plan.specs.declared.atoms.Atom.{Atom}
use Rattle.vc_plan.specs.declared.atoms.Atom.TheVariants.{Is}
use Rattle.vc_plan.specs.declared.conditions.Condition.{Condition}
use Rattle.vc_plan.specs.declared.conditions.Condition.TheVariants.{Always, Compared, IsIn, Specified, Holds, Filled}
use Rattle.vc_plan.specs.declared.conditions.Condition.TheVariants.{Not', And', Or'}
use Rattle.vc_plan.specs.declared.conditions.Kleene.{Kleene}
use Rattle.vc_plan.specs.declared.conditions.Kleene.TheVariants.{True, False, Unknown}
use Rattle.vc_plan.specs.declared.conditions.Relation.{Relation}
use Rattle.vc_plan.specs.declared.conditions.Relation.TheVariants.{Equal, Unequal, Less, AtMost, Greater, AtLeast}
use Rattle.vc_plan.specs.declared.plans.Plan.{Plan}
use Rattle.vc_plan.specs.declared.rules.Rule.{Rule}
use Rattle.vc_plan.specs.declared.terms.Term.{Term}
use Rattle.vc_plan.specs.declared.terms.Term.TheVariants.{Literal, Read, PartSum, PartCount, Applied', Joined'}
use Rattle.vc_plan.specs.Answers.{fresh, nothing}
use Rattle.vc_plan.specs.Gives.{by_rule, by_user, by_entry, kind_gives, rule_says}
use Rattle.vc_plan.specs.Kleene.{truth_of, is_true, kleene_and}
use Rattle.vc_plan.specs.Pieces.{relates}
use Rattle.vc_plan.specs.Readings.{net_reading}
use Rattle.vc_plan.specs.Seen.{same_atom, seen_of, value_in}
use Rattle.vc_plan.specs.Truth.{compared, term_value, truth, truth_in}
use Rattle.vc_plan.proofs.PlanLaws.Atoms.{value_exact}
use Rattle.vc_plan.proofs.PlanLaws.Extending.{value_has}
use Rattle.vc_net_laws.specs.Triggers.{TriggersAreNeeded, first_trigger, stands_in, trigger_in, trigger_in_rule}
use Rattle.vc_net_laws.specs.Triggers.{trigger_of_condition, trigger_of_relation, trigger_of_sides}
use Rattle.vc_net_laws.specs.declared.triggers.Trigger.{Trigger}

-- values that are equal are one
equal_is_one : (a b : Value) → relates Equal a b ≡ true → a ≡ b
equal_is_one (Text s) (Text t) e = value_exact (Text s) (Text t) e
equal_is_one (Text s) (Num b) e = absurd (cc)
equal_is_one (Num a) (Text t) e = absurd (cc)
equal_is_one (Num a) (Num b) e =
    value_exact (Num a) (Num b)
    (and_parts (int_eq a.millionths b.millionths) (int_eq a.millionths b.millionths) e).0

truth_of_false : (b : Bool) → (b ≡ true → ⊥) → is_true (truth_of b) ≡ false
truth_of_false true f = absurd (f refl)
truth_of_false false f = refl

-- a variable equals no value that it doesn't have
unequal : (set : List Atom) (v : ℕ) (a : Value) (o : Option Value) → value_in set v ≡ o
    → has same_atom set (Is v a) ≡ false
    → (is_true (compared Equal (Some a) o) ≡ false) × (is_true (compared Equal o (Some a)) ≡ false)
unequal set v a None e absent = (refl, refl)
unequal set v a (Some b) e absent =
    let differ : (a ≡ b → ⊥) = λ q. both (value_has set v a (e ∙ ap Some (sym q))) absent in (
      truth_of_false (relates Equal a b) (λ r. differ (equal_is_one a b r)),
      truth_of_false (relates Equal b a) (λ r. differ (sym (equal_is_one b a r))),
    )

sides_untrue : (set : List Atom) (a b : Term) → stands_in set (trigger_of_sides a b) ≡ false
    → is_true (compared Equal (term_value (net_reading (seen_of set)) a) (term_value (net_reading (seen_of set)) b))
    ≡ false
sides_untrue set (Literal a) (Literal b) e = absurd (cc)
sides_untrue set (Literal a) (Read v) e = (unequal set v a (value_in set v) refl e).0
sides_untrue set (Literal a) (PartSum slot characteristic) e = absurd (cc)
sides_untrue set (Literal a) (PartCount slot) e = absurd (cc)
sides_untrue set (Literal a) (Applied' function p b) e = absurd (cc)
sides_untrue set (Literal a) (Joined' operator p b q c) e = absurd (cc)
sides_untrue set (Read v) (Literal a) e = (unequal set v a (value_in set v) refl e).1
sides_untrue set (Read v) (Read w) e = absurd (cc)
sides_untrue set (Read v) (PartSum slot characteristic) e = absurd (cc)
sides_untrue set (Read v) (PartCount slot) e = absurd (cc)
sides_untrue set (Read v) (Applied' function p b) e = absurd (cc)
sides_untrue set (Read v) (Joined' operator p b q c) e = absurd (cc)
sides_untrue set (PartSum slot characteristic) b e = absurd (cc)
sides_untrue set (PartCount slot) b e = absurd (cc)
sides_untrue set (Applied' function p a) b e = absurd (cc)
sides_untrue set (Joined' operator p a q c) b e = absurd (cc)

relation_untrue : (set : List Atom) (r : Relation) (a b : Term) → stands_in set (trigger_of_relation r a b) ≡ false
    → is_true (compared r (term_value (net_reading (seen_of set)) a) (term_value (net_reading (seen_of set)) b)) ≡ false
relation_untrue set Equal a b e = sides_untrue set a b e
relation_untrue set Unequal a b e = absurd (cc)
relation_untrue set Less a b e = absurd (cc)
relation_untrue set AtMost a b e = absurd (cc)
relation_untrue set Greater a b e = absurd (cc)
relation_untrue set AtLeast a b e = absurd (cc)

-- both sides of AND are true where it is
left_untrue : (k l : Kleene) → is_true k ≡ false → is_true (kleene_and k l) ≡ false
left_untrue True l e = absurd (cc)
left_untrue False l e = refl
left_untrue Unknown True e = refl
left_untrue Unknown False e = refl
left_untrue Unknown Unknown e = refl

right_untrue : (k l : Kleene) → is_true l ≡ false → is_true (kleene_and k l) ≡ false
right_untrue True l e = e
right_untrue False l e = refl
right_untrue Unknown True e = refl
right_untrue Unknown False e = refl
right_untrue Unknown Unknown e = refl

both_untrue : (set : List Atom) (k l : Kleene) (o p : Option Trigger) → (stands_in set o ≡ false → is_true k ≡ false)
    → (stands_in set p ≡ false → is_true l ≡ false) → stands_in set (first_trigger o p) ≡ false
    → is_true (kleene_and k l) ≡ false
both_untrue set k l None p f g e = right_untrue k l (g e)
both_untrue set k l (Some trigger) p f g e = left_untrue k l (f e)

-- a condition isn't true where its trigger doesn't stand
untrue : (set : List Atom) (c : Condition) → stands_in set (trigger_in c) ≡ false
    → is_true (truth (net_reading (seen_of set)) c) ≡ false
untrue set Always e = absurd (cc)
untrue set (Compared r a b) e = relation_untrue set r a b e
untrue set (IsIn v pieces) e = absurd (cc)
untrue set (Specified v) e = absurd (cc)
untrue set (Holds member text) e = absurd (cc)
untrue set (Filled member) e = absurd (cc)
untrue set (Not' p c) e = absurd (cc)
untrue set (And' p c q d) e =
    both_untrue set (truth (net_reading (seen_of set)) c) (truth (net_reading (seen_of set)) d) (trigger_in c)
    (trigger_in d)
    (untrue set c) (untrue set d) e
untrue set (Or' p c q d) e = absurd (cc)

condition_untrue : (set : List Atom) (o : Option Condition) → stands_in set (trigger_of_condition o) ≡ false
    → is_true (truth_in (net_reading (seen_of set)) o) ≡ false
condition_untrue set None e = refl
condition_untrue set (Some c) e = untrue set c e

and_false : (b : Bool) → (b && false) ≡ false
and_false true = refl
and_false false = refl

rule_quiet : (plan : Plan) (set : List Atom) (o : Option Rule) → stands_in set (trigger_in_rule plan o) ≡ false
    → rule_says plan (seen_of set) o ≡ nothing
rule_quiet plan set None e = refl
rule_quiet plan set (Some rule) e =
    let seen = seen_of set in
    let here = list_all seen.here rule.slots in
    let said = kind_gives plan seen rule rule.kind in
    ap (λ b. cond (here && b) said nothing) (condition_untrue set (slice_get plan.conditions rule.condition) e)
    ∙ ap (λ b. cond b said nothing) (and_false here)

pub triggers_are_needed : TriggersAreNeeded
triggers_are_needed plan sources set (by_rule r) e =
    ap (fresh (seen_of set)) (rule_quiet plan set (slice_get plan.rules r) e)
triggers_are_needed plan sources set (by_user v) e = absurd (cc)
triggers_are_needed plan sources set (by_entry v) e = absurd (cc)
