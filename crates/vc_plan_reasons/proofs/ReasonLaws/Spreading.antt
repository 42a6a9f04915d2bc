-- What rules and sources write that read a thing which is reached is reached.
use Rattle.std.proofs.Common.{◌≡◌, ℕ, ◌<◌, Bool, true, false, cond, ◌||◌, ◌⊎◌, List, [], ◌∷◌, ◌++◌}
use Rattle.std.proofs.Common.{length, map, refl, sym, ap, ◌∙◌, subst, inl, inr, arith}
use Rattle.std.specs.Prelude.{slice_get, flat_map, nat_eq, ◌==◌}
use Rattle.std.specs.List.{filter, list_any}
use Rattle.std.proofs.lemmas.Bool.{or_left, or_right, eqb-true, or_cases}
use Rattle.vc_base.specs.Sets.{has}
use Rattle.vc_base.specs.Spreading.{IsSpread, reads_some}
use Rattle.vc_base.proofs.ListLaws.{number_exact, number_itself, range_has}
use Rattle.vc_base.proofs.SetLaws.{all_at, has_back, has_cases, has_first, has_front, has_more}
use Rattle.vc_base.proofs.Settling.{IsIn, any_at}
use Rattle.vc_plan.specs.declared.plans.Plan.{Plan}
use Rattle.vc_plan.specs.declared.rules.Kind.{Kind}
use Rattle.vc_plan.specs.declared.rules.Kind.TheVariants.{Among, Compare, Equate, ByTable, Never, Last, Line}
use Rattle.vc_plan.specs.declared.rules.Rule.{Rule as PlanRule}
use Rattle.vc_plan.specs.Domains.{numbers_below}
use Rattle.vc_plan.specs.Reads.{vars_of_condition}
use Rattle.vc_plan.specs.RuleShapes.{has_one_last, is_last_of}
use Rattle.vc_plan.specs.Valid.{IsValid}
use Rattle.vc_plan_reasons.specs.Things.{Thing, slot_at, var_at, same_thing, has_thing, slots_of_var}
use Rattle.vc_plan_reasons.specs.Things.{slots_of_kind, vars_of_kind, rule_reads, rule_writes, kind_writes}
use Rattle.vc_plan_reasons.specs.Work.{links_of}
use Rattle.vc_plan_reasons.proofs.ReasonLaws.Reaching.{thing_exact, thing_itself}

-- an element that passes, and that one passes
pub some_thing : (p : Thing → Bool) (things : List Thing) → list_any p things ≡ true
    → (t : Thing) × (has_thing things t ≡ true) × (p t ≡ true)
some_thing p [] h = absurd (cc)
some_thing p (x ∷ things) h = by (or_cases (p x) (list_any p things) h) (some_thing p things)
  where
    by : (p x ≡ true) ⊎ (list_any p things ≡ true)
        → (list_any p things ≡ true → (t : Thing) × (has_thing things t ≡ true) × (p t ≡ true))
        → (t : Thing) × (has_thing (x ∷ things) t ≡ true) × (p t ≡ true)
    by (inl e) later = (x, has_first same_thing thing_exact thing_itself x things, e)
    by (inr e) later =
        let r = later e in (r.0, has_more same_thing thing_exact thing_itself x things r.0 r.1, r.2)

pub any_thing : (p : Thing → Bool) (things : List Thing) (t : Thing) → has_thing things t ≡ true → p t ≡ true
    → list_any p things ≡ true
any_thing p [] t h e = absurd (cc)
any_thing p (x ∷ things) t h e =
    elim (has_cases same_thing thing_exact thing_itself x things t h) [
      | inl same ↦ or_left (p x) (list_any p things) (ap p (sym same) ∙ e)
      | inr k ↦ or_right (p x) (list_any p things) (any_thing p things t k e)
    ]

-- a rule that reads a thing of a spread list writes things of it
abbrev written_by : Plan → List Thing → PlanRule → List Thing
written_by plan all rule = cond (reads_some (links_of plan) all rule) (rule_writes plan rule) []

flat_has : (f : PlanRule → List Thing) (rules : List PlanRule) (rule : PlanRule) (t : Thing) → IsIn rule rules
    → has_thing (f rule) t ≡ true → has_thing (flat_map f rules) t ≡ true
flat_has f [] rule t i h = absurd i
flat_has f (x ∷ rules) rule t (inl e) h =
    has_front same_thing thing_exact thing_itself (f x) (flat_map f rules) t (subst (λ r. has_thing (f r) t ≡ true) e h)
flat_has f (x ∷ rules) rule t (inr i) h =
    has_back same_thing thing_exact thing_itself (f x) (flat_map f rules) t (flat_has f rules rule t i h)

pub rule_spreads : (plan : Plan) (things all : List Thing) → IsSpread (links_of plan) things all
    → (rule : PlanRule) (read written : Thing)
    → IsIn rule plan.rules → has_thing (rule_reads plan rule) read ≡ true → has_thing all read ≡ true
    → has_thing (rule_writes plan rule) written ≡ true → has_thing all written ≡ true
rule_spreads plan things all spread rule read written i reads reached writes =
    let some : reads_some (links_of plan) all rule ≡ true
    = any_thing (has same_thing all) (rule_reads plan rule) read reads reached in
    spread.written written
    (flat_has (written_by plan all) plan.rules rule written i
    (ap (λ b. has_thing (cond b (rule_writes plan rule) []) written) some ∙ writes))

-- the rule of a variable's last grain, which a valid plan has, reads the variable's slot and writes it
some_from : (p : PlanRule → Bool) (rules : List PlanRule) → (length (filter p rules) == 1) ≡ true
    → list_any p rules ≡ true
some_from p [] e = absurd (cc e)
some_from p (x ∷ rules) e = choice (p x) e (some_from p rules)
  where
    choice : (b : Bool) → (length (cond b (x ∷ filter p rules) (filter p rules)) == 1) ≡ true
        → ((length (filter p rules) == 1) ≡ true → list_any p rules ≡ true) → (b || list_any p rules) ≡ true
    choice true q later = refl
    choice false q later = later q

last_is : (v : ℕ) (kind : Kind) → is_last_of v kind ≡ true → kind ≡ Last v
last_is v (Among w restriction) e = absurd (cc e)
last_is v (Compare r a b) e = absurd (cc e)
last_is v (Equate a b) e = absurd (cc e)
last_is v (ByTable table columns) e = absurd (cc e)
last_is v Never e = absurd (cc e)
last_is v (Last w) e = ap Last (sym (eqb-true v w e))
last_is v (Line i) e = absurd (cc e)

-- slots that a rule's kind looks at are read
kind_slots_read : (plan : Plan) (rule : PlanRule) (slots : List ℕ) (t : Thing) → slots_of_kind plan rule.kind ≡ slots
    → has_thing (map slot_at slots) t ≡ true → has_thing (rule_reads plan rule) t ≡ true
kind_slots_read plan rule slots t is h =
    let vars
    = map var_at (vars_of_condition (slice_get plan.conditions rule.condition) ++ vars_of_kind plan rule.kind) in
    has_front same_thing thing_exact thing_itself (map slot_at (rule.slots ++ slots_of_kind plan rule.kind)) vars t
    (behind rule.slots (ap (λ s. has_thing (map slot_at s) t) is ∙ h))
  where
    behind : (front : List ℕ) → has_thing (map slot_at (slots_of_kind plan rule.kind)) t ≡ true
        → has_thing (map slot_at (front ++ slots_of_kind plan rule.kind)) t ≡ true
    behind [] k = k
    behind (i ∷ front) k =
        has_more same_thing thing_exact thing_itself (slot_at i) (map slot_at (front ++ slots_of_kind plan rule.kind)) t
        (behind front k)

pub source_spreads : (plan : Plan) → IsValid plan → (things all : List Thing) → IsSpread (links_of plan) things all
    → (v : ℕ) (read : Thing) → v < length plan.vars → has_thing (map slot_at (slots_of_var plan v)) read ≡ true
    → has_thing all read ≡ true → has_thing all (var_at v) ≡ true
source_spreads plan valid things all spread v read below reads reached =
    let one : has_one_last plan v ≡ true
    = all_at nat_eq number_exact number_itself (has_one_last plan) (numbers_below (length plan.vars)) v valid.lasts
    (range_has 0 (length plan.vars) v (omega arith) (omega (arith, below))) in
    let r
    = any_at (λ rule. is_last_of v rule.kind) plan.rules
    (some_from (λ rule. is_last_of v rule.kind) plan.rules one) in
    let is : r.0.kind ≡ Last v = last_is v r.0.kind r.2 in
    rule_spreads plan things all spread r.0 read (var_at v) r.1
    (kind_slots_read plan r.0 (slots_of_var plan v) read (ap (slots_of_kind plan) is) reads) reached
    (ap (λ k. has_thing (kind_writes plan r.0 k) (var_at v)) is
    ∙ has_first same_thing thing_exact thing_itself (var_at v) [])
