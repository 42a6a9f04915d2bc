-- Each giver of a plan touches some thing of it, so those who wait at the start touch what all things reach.
use Rattle.std.proofs.Common.{◌≡◌, ℕ, zero, suc, ◌<◌, Bool, true, ◌&&◌, List, [], ◌∷◌, ◌++◌}
use Rattle.std.proofs.Common.{length, map, refl, sym, ◌∙◌, ap, subst, inl, inr, arith}
use Rattle.std.specs.Prelude.{Some, if◌then◌else◌, is_some, nat_eq, nat_le, nat_lt, slice_get, ◌==◌}
use Rattle.std.specs.List.{IsDistinct, list_all, list_any}
use Rattle.std.proofs.lemmas.Bool.{and_parts, ltb-true, or_left, or_right}
use Rattle.vc_base.specs.Sets.{has}
use Rattle.vc_base.specs.Spreading.{IsSpread}
use Rattle.vc_base.proofs.ListLaws.{number_exact, number_itself, range_has}
use Rattle.vc_base.proofs.SetLaws.{all_at, has_back, has_cases, has_first, has_front, has_more}
use Rattle.vc_plan.specs.declared.plans.Plan.{Plan}
use Rattle.vc_plan.specs.declared.rules.Kind.{Kind}
use Rattle.vc_plan.specs.declared.rules.Kind.TheVariants.{Among, Compare, Equate, ByTable, Never, Last, Line}
use Rattle.vc_plan.specs.declared.rules.Rule.{Rule}
use Rattle.vc_plan.specs.Domains.{numbers_below}
use Rattle.vc_plan.specs.Gives.{Giver, by_rule, by_user, by_entry}
use Rattle.vc_plan.specs.Orders.{are_apart}
use Rattle.vc_plan.specs.Ranges.{is_of, is_of_if}
use Rattle.vc_plan.specs.Reads.{vars_of_condition}
use Rattle.vc_plan.specs.RuleRanges.{kind_there, rule_there}
use Rattle.vc_plan.specs.RuleShapes.{is_at, is_of_constraint, rule_vars, stays_at_its_slots}
use Rattle.vc_plan.proofs.StageProofs.Parents.{all_at as passes_at}
use Rattle.vc_plan_reasons.specs.Things.{Thing, has_thing, kind_writes, rule_reads, rule_writes, same_thing, slot_at}
use Rattle.vc_plan_reasons.specs.Things.{slots_of_kind, touches, var_at, vars_of_kind}
use Rattle.vc_plan_reasons.specs.Work.{links_of, reach_of}
use Rattle.vc_plan_reasons.proofs.ReasonLaws.Reaching.{reach_is_least, thing_exact, thing_itself}
use Rattle.vc_plan_reasons.proofs.ReasonLaws.Writing.{has_var}
use Rattle.vc_plan_reasons.proofs.ReasonLaws.Spreading.{any_thing, some_thing}
use Rattle.vc_net_agenda.specs.Agendas.{Awaited, nobody_on}
use Rattle.vc_net_laws.specs.Waking.{giver_touches}
use Rattle.vc_net_laws.specs.Wakings.{things_of}
use Rattle.vc_net_waking.specs.Beginning.{beginners}
use Rattle.vc_net_waking.proofs.WakingLaws.{entry_below, entry_in, rule_below, source_touches, user_below, user_in}
use Rattle.vc_net_waking.specs.Spending.{BeginnersAreOn, EachTouchesSomething, touches_one}
use Rattle.vc_net_waking.proofs.CountLaws.{givers_once}
use Rattle.vc_net_waking.proofs.SpendLaws.{given_are, touches_at}

-- a slot or variable that is there is one of the plan's things
mapped_slot : (slots : List ℕ) (i : ℕ) → has nat_eq slots i ≡ true → has_thing (map slot_at slots) (slot_at i) ≡ true
mapped_slot [] i h = h
mapped_slot (j ∷ slots) i h =
    elim (has_cases nat_eq number_exact number_itself j slots i h) [
      | inl q ↦ subst (λ z. has_thing (slot_at j ∷ map slot_at slots) (slot_at z) ≡ true) (sym q)
          (has_first same_thing thing_exact thing_itself (slot_at j) (map slot_at slots))
      | inr q ↦ has_more same_thing thing_exact thing_itself (slot_at j) (map slot_at slots) (slot_at i)
          (mapped_slot slots i q)
    ]

slot_there : (plan : Plan) (i : ℕ) → i < length plan.slots → has_thing (things_of plan) (slot_at i) ≡ true
slot_there plan i low =
    has_front same_thing thing_exact thing_itself (map slot_at (numbers_below (length plan.slots)))
    (map var_at (numbers_below (length plan.vars))) (slot_at i)
    (mapped_slot (numbers_below (length plan.slots)) i
    (range_has 0 (length plan.slots) i (omega arith) (omega (arith, low))))

var_there : (plan : Plan) (v : ℕ) → v < length plan.vars → has_thing (things_of plan) (var_at v) ≡ true
var_there plan v low =
    has_back same_thing thing_exact thing_itself (map slot_at (numbers_below (length plan.slots)))
    (map var_at (numbers_below (length plan.vars))) (var_at v)
    (has_var (numbers_below (length plan.vars)) v
    (range_has 0 (length plan.vars) v (omega arith) (omega (arith, low))))

first_slot : (slots : List ℕ) → nat_lt 0 (length slots) ≡ true → (i : ℕ) × (has nat_eq slots i ≡ true)
first_slot [] h = absurd (cc)
first_slot (i ∷ slots) h = (i, has_first nat_eq number_exact number_itself i slots)

-- a rule reads its first slot, or writes a thing that is there
module _ (plan : Plan) (rule : Rule) (there : rule_there plan rule ≡ true) (own : stays_at_its_slots plan rule ≡ true)
  where
    kind : kind_there plan rule.kind ≡ true
    kind =
        (and_parts ((is_of_if plan.dependencies rule.dependency && is_of plan.conditions rule.condition)
        && (list_all (is_of plan.slots) rule.slots && list_all (is_of plan.vars) rule.inferred))
        (kind_there plan rule.kind) there).1

    slots_are : list_all (is_of plan.slots) rule.slots ≡ true
    slots_are =
        (and_parts (list_all (is_of plan.slots) rule.slots) (list_all (is_of plan.vars) rule.inferred)
        (and_parts (is_of_if plan.dependencies rule.dependency && is_of plan.conditions rule.condition)
        (list_all (is_of plan.slots) rule.slots && list_all (is_of plan.vars) rule.inferred)
        (and_parts ((is_of_if plan.dependencies rule.dependency && is_of plan.conditions rule.condition)
        && (list_all (is_of plan.slots) rule.slots && list_all (is_of plan.vars) rule.inferred))
        (kind_there plan rule.kind) there).0).1).0

    reads_some_slot : nat_lt 0 (length rule.slots) ≡ true → list_any (touches plan rule) (things_of plan) ≡ true
    reads_some_slot some =
        let r = first_slot rule.slots some in
        let low : nat_lt r.0 (length plan.slots) ≡ true
        = all_at nat_eq number_exact number_itself (is_of plan.slots) rule.slots r.0 slots_are r.1 in
        any_thing (touches plan rule) (things_of plan) (slot_at r.0)
        (slot_there plan r.0 (ltb-true r.0 (length plan.slots) low))
        (or_left (has_thing (rule_reads plan rule) (slot_at r.0)) (has_thing (rule_writes plan rule) (slot_at r.0))
        (has_front same_thing thing_exact thing_itself (map slot_at (rule.slots ++ slots_of_kind plan rule.kind))
        (map var_at (vars_of_condition (slice_get plan.conditions rule.condition) ++ vars_of_kind plan rule.kind))
        (slot_at r.0)
        (mapped_slot (rule.slots ++ slots_of_kind plan rule.kind) r.0
        (has_front nat_eq number_exact number_itself rule.slots (slots_of_kind plan rule.kind) r.0 r.1))))

    writes_what_is_there : (t : Thing) → has_thing (things_of plan) t ≡ true
        → has_thing (rule_writes plan rule) t ≡ true
        → list_any (touches plan rule) (things_of plan) ≡ true
    writes_what_is_there t here writes =
        any_thing (touches plan rule) (things_of plan) t here
        (or_right (has_thing (rule_reads plan rule) t) (has_thing (rule_writes plan rule) t) writes)

    abbrev few : Bool
    few = nat_le (length rule.slots) 4

    abbrev once : Bool
    once = are_apart (λ i j. i == j) rule.slots

    abbrev own_vars : Bool
    own_vars = list_all (is_at plan rule.slots) (rule_vars plan rule) && list_all (is_at plan rule.slots) rule.inferred

    abbrev of_one : Bool
    of_one = is_some rule.dependency && are_apart (λ v w. v == w) rule.inferred

    abbrev stays_so : Bool
    stays_so = (((nat_lt 0 (length rule.slots) && few) && once) && own_vars) && of_one

    some_slot : stays_so ≡ true → nat_lt 0 (length rule.slots) ≡ true
    some_slot h =
        let some = nat_lt 0 (length rule.slots) in
        (and_parts some few (and_parts (some && few) once (and_parts ((some && few) && once) own_vars
        (and_parts (((some && few) && once) && own_vars) of_one h).0).0).0).0

    pub touches_something : list_any (touches plan rule) (things_of plan) ≡ true
    touches_something = by rule.kind refl own
      where
        by : (k : Kind) → rule.kind ≡ k
            → (if is_of_constraint k then stays_so else ((length rule.slots == 0) && (length rule.inferred == 0)))
            ≡ true
            → list_any (touches plan rule) (things_of plan) ≡ true
        by (Among v restriction) is h = reads_some_slot (some_slot h)
        by (Compare r a b) is h = reads_some_slot (some_slot h)
        by (Equate a b) is h = reads_some_slot (some_slot h)
        by (ByTable table columns) is h = reads_some_slot (some_slot h)
        by Never is h = reads_some_slot (some_slot h)
        by (Last v) is h =
            writes_what_is_there (var_at v)
            (var_there plan v (ltb-true v (length plan.vars) (ap (kind_there plan) (sym is) ∙ kind)))
            (ap (λ k. has_thing (kind_writes plan rule k) (var_at v)) is
            ∙ has_first same_thing thing_exact thing_itself (var_at v) [])
        by (Line i) is h =
            writes_what_is_there (slot_at i)
            (slot_there plan i (ltb-true i (length plan.slots) (ap (kind_there plan) (sym is) ∙ kind)))
            (ap (λ k. has_thing (kind_writes plan rule k) (slot_at i)) is
            ∙ has_first same_thing thing_exact thing_itself (slot_at i) [])

some_rule : (rules : List Rule) (r : ℕ) → r < length rules → (rule : Rule) × (slice_get rules r ≡ Some rule)
some_rule [] r low = absurd (omega (arith, low))
some_rule (x ∷ rules) zero low = (x, refl)
some_rule (x ∷ rules) (suc r) low = some_rule rules r (omega (arith, low))

pub each_touches_something : EachTouchesSomething
each_touches_something plan (by_rule r) valid there =
    let at = some_rule plan.rules r (rule_below plan r there) in
    touches_at plan (things_of plan) r at.0 at.1
    ∙ touches_something plan at.0 (passes_at (rule_there plan) plan.rules r at.0 valid.rules_there at.1)
    (passes_at (stays_at_its_slots plan) plan.rules r at.0 valid.own_slots at.1)
each_touches_something plan (by_user v) valid there =
    any_thing (giver_touches plan (by_user v)) (things_of plan) (var_at v) (var_there plan v (user_below plan v there))
    (source_touches plan v (by_user v) (user_in v))
each_touches_something plan (by_entry v) valid there =
    any_thing (giver_touches plan (by_entry v)) (things_of plan) (var_at v)
    (var_there plan v (entry_below plan v there))
    (source_touches plan v (by_entry v) (entry_in v))

-- who touches one of some things touches what these reach
pub reaches_on : (plan : Plan) (things : List Thing) (giver : Giver) → touches_one plan things giver ≡ true
    → touches_one plan (reach_of plan things) giver ≡ true
reaches_on plan things giver touch =
    let r = some_thing (giver_touches plan giver) things touch in
    let spread : IsSpread (links_of plan) things (reach_of plan things) = (reach_is_least plan things).0 in
    any_thing (giver_touches plan giver) (reach_of plan things) r.0 (spread.holds r.0 r.1) r.2

pub beginners_are_on : BeginnersAreOn
unfolding IsDistinct
beginners_are_on plan agenda valid sizes =
    let nobody : Awaited = nobody_on agenda.rules agenda.vars in record {
      once = givers_once nobody (beginners plan) tt;
      there = λ giver h. elim (given_are plan nobody (beginners plan) giver sizes h) [
        | inl k ↦ absurd (cc)
        | inr k ↦ k.1
      ];
      touch = λ giver h. elim (given_are plan nobody (beginners plan) giver sizes h) [
        | inl k ↦ absurd (cc)
        | inr k ↦ reaches_on plan (things_of plan) giver (each_touches_something plan giver valid k.1)
      ];
    }
