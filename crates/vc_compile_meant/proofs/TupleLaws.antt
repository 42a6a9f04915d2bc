-- The rules of constraints stand at the slots of their tuples, and read and infer variables of these alone.
use Rattle.std.proofs.Common.{◌≡◌, ℕ, zero, suc, ◌+◌, Bool, true, false, cond, not, ◌&&◌, ◌||◌, nat_lt, List, [], ◌∷◌}
use Rattle.std.proofs.Common.{◌++◌, length, map, flat_map, Option, Some, None, refl, sym, ap, ◌∙◌, arith, subst}
use Rattle.std.proofs.Common.{if◌then◌else◌, inl, inr}
use Rattle.std.specs.Prelude.{◌==◌, is_some, nat_le, option_map, slice_get}
use Rattle.std.specs.List.{filter, list_all, list_any}
use Rattle.std.proofs.lemmas.Bool.{and_from, and_parts, eq-eqb, eqb-true, le-leb, ltb-false, or_cases, or_parts}
use Rattle.std.proofs.lemmas.List.Folds.{list_all-append, list_any-append}
use Rattle.vc_value.specs.declared.value.Value.{Value}
use Rattle.vc_model_parts.specs.declared.parts.Model.{Model}
use Rattle.vc_model_parts.specs.declared.parts.NamedDependency.{NamedDependency}
use Rattle.vc_model_parts.specs.declared.parts.Net.{Net}
use Rattle.vc_model_parts.specs.declared.parts.Object as configurable
use Rattle.vc_plan.specs.Domains.{numbers_below}
use Rattle.vc_plan.specs.Orders.{are_apart}
use Rattle.vc_plan.specs.Reads.{vars_of_condition, vars_of_term}
use Rattle.vc_plan.specs.RuleShapes.{is_among, is_at, is_of_constraint, kind_vars, operand_vars, rule_vars}
use Rattle.vc_plan.specs.RuleShapes.{stays_at_its_slots}
use Rattle.vc_plan.specs.Seen.{slot_in}
use Rattle.vc_plan.specs.declared.plans.Plan.{Plan}
use Rattle.vc_plan.specs.declared.plans.Slot.{Slot}
use Rattle.vc_plan.specs.declared.rules.Binding.{Binding}
use Rattle.vc_syntax_tree.specs.declared.Operand.{Operand}
use Rattle.vc_syntax_tree.specs.declared.Relator.{Relator}
use Rattle.vc_syntax_tree.specs.declared.Relator.TheVariants as relators
use Rattle.vc_syntax_tree.specs.Trees as syntax
use Rattle.vc_table.specs.declared.table.VariantTable.{VariantTable}
use Rattle.vc_types.specs.Faults.{fault_of}
use Rattle.vc_types.specs.Occurrences.{Use, as_set, as_value, call_of_demand, condition_of_restriction, conditions_in}
use Rattle.vc_types.specs.Occurrences.{if_there, is_equality, is_literal, relation_of_demand, relations_of}
use Rattle.vc_types.specs.Occurrences.{specified_in, uses_in, uses_of_left, uses_of_relation, uses_of_term, values_in}
use Rattle.vc_types.specs.PlaceFaults.{denies_specified, is_computed, is_operand, uses_set}
use Rattle.vc_types.specs.Settings.{is_multiple, is_set}
use Rattle.vc_compile_plan.specs.Conditions.{condition_at}
use Rattle.vc_compile_plan.specs.Layouts.{Layout, layout_of, tree_of}
use Rattle.vc_compile_plan.specs.Numbering.{conditions_of, demand_terms, drafts_of, kind_from, number_for, rule_brings}
use Rattle.vc_compile_plan.specs.Numbering.{rule_from, terms_of}
use Rattle.vc_compile_plan.specs.PlanOf.{IsPlanOf}
use Rattle.vc_compile_plan.specs.Refusals as refusals
use Rattle.vc_compile_plan.specs.Refusals.{is_in_net, type_faults, typed_constraints}
use Rattle.vc_compile_plan.specs.Rules.{Demand, Draft, among, binding_at, by_table, compare, constraint_drafts}
use Rattle.vc_compile_plan.specs.Rules.{constraint_site, constraints_drafts, demand_at, distinct, equate, given_operand}
use Rattle.vc_compile_plan.specs.Rules.{in_net, last, last_drafts, line, never, of_left_operand, of_right_operand}
use Rattle.vc_compile_plan.specs.Rules.{of_terms, relation_demand, restriction_draft, restriction_drafts, rule_drafts}
use Rattle.vc_compile_plan.specs.Rules.{slot_drafts_from}
use Rattle.vc_compile_plan.specs.Sites.{Site, characteristic_in, is_set_meant, var_meant}
use Rattle.vc_compile_plan.specs.Slots.{slots_of}
use Rattle.vc_compile_plan.specs.Terms.{literal_of, lone_of, term_at}
use Rattle.vc_compile_plan.specs.Trees as trees
use Rattle.vc_compile_plan.specs.Trees.{condition_of}
use Rattle.vc_compile_plan.specs.Tuples.{are_different, are_of_kinds, are_parts_met, asked_of, both, matches}
use Rattle.vc_compile_plan.specs.Tuples.{tuples_from, tuples_of, without_parts}
use Rattle.vc_compile_plan.specs.Uses.{active_constraints, constraints_in, is_active, is_one_of, net_constraints}
use Rattle.vc_compile_plan.specs.Uses.{object_of_slot}
use Rattle.vc_compile_valid.proofs.DraftLaws.{constraint_same, demand_constrains, each_last, each_slot_draft, kind_of}
use Rattle.vc_compile_valid.proofs.EachLaws.{Each, each_both, each_flat, each_joined, each_left, each_mapped, each_more}
use Rattle.vc_compile_valid.proofs.EachLaws.{each_of_all, each_passes}
use Rattle.vc_compile_valid.proofs.ListLaws.{any_there, apart_left, left_pass, made_from, none_from, passes_there}
use Rattle.vc_compile_valid.proofs.ListLaws.{some_there}
use Rattle.vc_compile_valid.proofs.NumberingLaws.{StandFrom, numbered_each, rule_conditions, rule_terms}
use Rattle.vc_compile_valid.proofs.PlacedLaws.{stand_first, stand_rest}
use Rattle.vc_compile_meant.specs.Trees.{KeepsObjects, has_objects}
use Rattle.vc_compile_meant.proofs.ComponentLaws.{condition_if, condition_stands}
use Rattle.vc_compile_meant.proofs.FaultLaws.{IsTypedAt, IsUsed, all_used, each_false, each_here, each_split}
use Rattle.vc_compile_meant.proofs.FaultLaws.{each_unflat, is_sound, uses_typed}
use Rattle.vc_compile_meant.proofs.MeaningLaws.{var_is}
use Rattle.vc_compile_meant.proofs.NetLaws.{meant_in}
use Rattle.vc_compile_meant.proofs.ScopeLaws.{AnySum, SetIn, VarIn, condition_reads, term_reads}
use Rattle.vc_compile_meant.proofs.SoundLaws.{constraints_sound}
use Rattle.vc_compile_meant.proofs.TreeLaws.{ConditionHas, IsGoodUse, TermHas, condition_has, lone_good, left_uses}
use Rattle.vc_compile_meant.proofs.TreeLaws.{used_term_has, uses_by_condition, uses_by_demand, uses_by_name}
use Rattle.vc_compile_meant.proofs.TreeLaws.{uses_by_term}

-- an active constraint is one of some net
in_nets : (model : Model) (d : ℕ) (nets : List ℕ)
    → is_one_of (flat_map (λ net. constraints_in (slice_get model.nets net)) nets) d ≡ true → is_in_net model d ≡ true
in_nets model d [] h = absurd (cc)
in_nets model d (n ∷ nets) h =
    let rest = flat_map (λ net. constraints_in (slice_get model.nets net)) nets in
    elim (or_cases (is_one_of (constraints_in (slice_get model.nets n)) d) (is_one_of rest d)
    (sym (list_any-append (λ m. m == d) (constraints_in (slice_get model.nets n)) rest) ∙ h)) [
      | inl here ↦ by (slice_get model.nets n) refl here
      | inr later ↦ in_nets model d nets later
    ]
  where
    by : (o : Option Net) → slice_get model.nets n ≡ o → is_one_of (constraints_in (slice_get model.nets n)) d ≡ true
        → is_in_net model d ≡ true
    by None e here = absurd (let none = sym (ap (λ x. is_one_of (constraints_in x) d) e) ∙ here in cc)
    by (Some net) e here =
        any_there (λ net. is_one_of net.constraints d) model.nets n net e
        (sym (ap (λ x. is_one_of (constraints_in x) d) e) ∙ here)

active_in_net : (model : Model) (d : ℕ) → is_active (layout_of model) d ≡ true → is_in_net model d ≡ true
active_in_net model d h =
    let found
    = some_there (λ slot. is_one_of (net_constraints model (object_of_slot (layout_of model) slot)) d)
    (slots_of model) h in
    by (object_of_slot (layout_of model) found.1) found.1 refl found.3
  where
    by : (o : Option configurable.Object) (slot : Slot) → object_of_slot (layout_of model) slot ≡ o
        → is_one_of (net_constraints model (object_of_slot (layout_of model) slot)) d ≡ true → is_in_net model d ≡ true
    by None slot e k = absurd (let none = sym (ap (λ x. is_one_of (net_constraints model x) d) e) ∙ k in cc)
    by (Some object) slot e k =
        in_nets model d object.nets (sym (ap (λ x. is_one_of (net_constraints model x) d) e) ∙ k)

pub each_unleft : {X : Type 0} (P : X → Type 0) (p : X → Bool) (xs : List X) → Each P (filter p xs)
    → Each (λ x. p x ≡ true → P x) xs
each_unleft P p [] h = tt
each_unleft P p (x ∷ xs) h = by (p x) refl h (λ k. each_unleft P p xs k)
  where
    by : (b : Bool) → p x ≡ b → Each P (cond b (x ∷ filter p xs) (filter p xs))
        → (Each P (filter p xs) → Each (λ x. p x ≡ true → P x) xs) → Each (λ x. p x ≡ true → P x) (x ∷ xs)
    by true e k later = (λ f. k.0, later k.1)
    by false e k later = (λ f. absurd (let both = sym f ∙ e in cc), later k)

active_typed : (model : Model) → refusals.first_of (type_faults (layout_of model)) ≡ None
    → Each (IsTypedAt model (λ tree. in_net)) (active_constraints (layout_of model))
active_typed model sound =
    let numbers = numbers_below (length model.dependencies) in
    let Typed : ℕ → Type 0 = IsTypedAt model (λ tree. in_net) in
    let all = each_unleft Typed (is_in_net model) numbers
    (uses_typed model (λ tree. in_net) (filter (is_in_net model) numbers) (constraints_sound model sound)) in
    each_more (λ d. (is_active (layout_of model) d ≡ true) × (is_in_net model d ≡ true → Typed d)) Typed
    (λ d h. h.1 (active_in_net model d h.0)) (active_constraints (layout_of model))
    (each_left (λ d. is_in_net model d ≡ true → Typed d) (is_active (layout_of model)) numbers all)

-- tuples have a slot for each object
tuple_lengths : (numbers : List ℕ) (n : ℕ) → Each (λ t. length t ≡ n) (tuples_from numbers n)
tuple_lengths numbers zero = (refl, tt)
tuple_lengths numbers (suc n) =
    each_flat (λ t. length t ≡ suc n) (λ i. map (λ tuple. i ∷ tuple) (tuples_from numbers n)) numbers
    (each_of_all (λ i. Each (λ t. length t ≡ suc n) (map (λ tuple. i ∷ tuple) (tuples_from numbers n)))
    (λ i. each_mapped (λ t. length t ≡ suc n) (λ tuple. i ∷ tuple) (tuples_from numbers n)
    (each_more (λ t. length t ≡ n) (λ t. suc (length t) ≡ suc n) (λ t e. ap suc e) (tuples_from numbers n)
    (tuple_lengths numbers n))) numbers)

-- what a rule of a constraint is made of
pub record IsOfNet (model : Model) (d : ℕ) (constraint : syntax.Constraint) (tuple : List ℕ)
    (restriction : syntax.Restriction) : Type 0 where
  pub tree : tree_of model d ≡ Some (syntax.Constrains constraint)
  pub sound : fault_of model in_net (syntax.Constrains constraint) ≡ None
  pub matching : matches (layout_of model) constraint tuple ≡ true
  pub size : length tuple ≡ length constraint.objects
  pub place : ℕ
  pub there : slice_get constraint.restrictions place ≡ Some restriction

abbrev pub OfNets : (Draft → Type 0) → Model → Type 0
OfNets P model =
    (d : ℕ) (constraint : syntax.Constraint) (tuple : List ℕ) (number : ℕ) (restriction : syntax.Restriction)
    → IsOfNet model d constraint tuple restriction
    → P (restriction_draft (layout_of model) d constraint tuple number restriction)

restrictions_are : (P : Draft → Type 0) (model : Model) (d : ℕ) (constraint : syntax.Constraint) (tuple : List ℕ)
    → ((number k : ℕ) (restriction : syntax.Restriction) → slice_get constraint.restrictions k ≡ Some restriction
    → P (restriction_draft (layout_of model) d constraint tuple number restriction))
    → (number n : ℕ) (rs : List syntax.Restriction)
    → ((k : ℕ) (r : syntax.Restriction) → slice_get rs k ≡ Some r → slice_get constraint.restrictions (n + k) ≡ Some r)
    → Each P (restriction_drafts (layout_of model) d constraint tuple number rs)
restrictions_are P model d constraint tuple of number n [] h = tt
restrictions_are P model d constraint tuple of number n (r ∷ rs) h = (
  of number (n + 0) r (h zero r refl),
  restrictions_are P model d constraint tuple of (suc number) (suc n) rs
      (λ k x e. subst (λ m. slice_get constraint.restrictions m ≡ Some x) (one_more n k) (h (suc k) x e)),
)
  where
    one_more : (i k : ℕ) → i + suc k ≡ suc i + k
    one_more i k = omega arith

of_tree : (P : Draft → Type 0) (model : Model) → OfNets P model → (d : ℕ) (o : Option syntax.Dependency)
    → tree_of model d ≡ o
    → IsTypedAt model (λ tree. in_net) d → Each P (constraint_drafts (layout_of model) d o)
of_tree P model of d None e typed = tt
of_tree P model of d (Some (syntax.Precondition condition)) e typed = tt
of_tree P model of d (Some (syntax.Selection condition)) e typed = tt
of_tree P model of d (Some (syntax.Procedure statements)) e typed = tt
of_tree P model of d (Some (syntax.Counts term)) e typed = tt
of_tree P model of d (Some (syntax.Constrains constraint)) e typed =
    let layout = layout_of model in
    let all = tuples_from (numbers_below (length (slots_of model))) (length constraint.objects) in
    each_flat P (λ tuple. restriction_drafts layout d constraint tuple 1 constraint.restrictions)
    (tuples_of layout constraint)
    (each_more (λ t. (matches layout constraint t ≡ true) × (length t ≡ length constraint.objects))
    (λ tuple. Each P (restriction_drafts layout d constraint tuple 1 constraint.restrictions))
    (λ tuple h. restrictions_are P model d constraint tuple
    (λ number k r there. of d constraint tuple number r (record {
      tree = e;
      sound = typed (syntax.Constrains constraint) e;
      matching = h.0;
      size = h.1;
      place = k;
      there = there;
    })) 1 0 constraint.restrictions
    (λ k r f. subst (λ m. slice_get constraint.restrictions m ≡ Some r) (no_front k) f)) (tuples_of layout constraint)
    (each_left (λ t. length t ≡ length constraint.objects) (matches layout constraint) all
    (tuple_lengths (numbers_below (length (slots_of model))) (length constraint.objects))))
  where
    no_front : (k : ℕ) → k ≡ 0 + k
    no_front k = omega arith

pub each_of_nets : (P : Draft → Type 0) (model : Model) → refusals.first_of (type_faults (layout_of model)) ≡ None
    → OfNets P model
    → Each P (constraints_drafts (layout_of model))
each_of_nets P model sound of =
    each_flat P (λ d. constraint_drafts (layout_of model) d (tree_of model d)) (active_constraints (layout_of model))
    (each_more (IsTypedAt model (λ tree. in_net))
    (λ d. Each P (constraint_drafts (layout_of model) d (tree_of model d)))
    (λ d h. of_tree P model of d (tree_of model d) refl h) (active_constraints (layout_of model))
    (active_typed model sound))

-- no set stands in a constraint
abbrev pub NoSet : ℕ → Type 0
NoSet s = ⊥

net_good : (model : Model) (tables : List VariantTable) (plan : Plan) → IsPlanOf model tables plan
    → (constraint : syntax.Constraint)
    (tuple : List ℕ) → are_of_kinds (layout_of model) constraint.objects tuple ≡ true → (u : Use)
    → IsUsed (constraint_site (layout_of model) constraint tuple).setting u
    → uses_set (constraint_site (layout_of model) constraint tuple).setting u ≡ false
    → IsGoodUse (VarIn plan tuple) NoSet (layout_of model) (constraint_site (layout_of model) constraint tuple) u
net_good model tables plan is constraint tuple kinds u used none =
    let site = constraint_site (layout_of model) constraint tuple in
    let meant = meant_in model constraint tuple kinds u.operand used.c used.means in
    let same : is_set_meant site u.operand ≡ is_multiple model used.c
    = ap (λ m. is_multiple model (characteristic_in m)) used.means in
    let single : is_multiple model used.c ≡ false = sym (ap (is_set model) used.means) ∙ none in
    record {
      good = record {
        value = λ s.
            let found = var_is model site u.operand used.c used.means meant.meant single in
            ap (λ xs. is_among tuple (slot_in (slice_get xs (var_meant (layout_of model) site u.operand)))) is.vars
            ∙ ap (λ o. is_among tuple (slot_in o)) found.1 ∙ ap (λ k. is_among tuple (Some k)) found.2 ∙ meant.place;
        set = λ s. let both : true ≡ false = sym s ∙ same ∙ single in cc;
      };
      single = λ value. same ∙ single;
    }

all_good : (model : Model) (tables : List VariantTable) (plan : Plan) → IsPlanOf model tables plan
    → (constraint : syntax.Constraint)
    (tuple : List ℕ) → are_of_kinds (layout_of model) constraint.objects tuple ≡ true
    → fault_of model in_net (syntax.Constrains constraint) ≡ None
    → Each (IsGoodUse (VarIn plan tuple) NoSet (layout_of model) (constraint_site (layout_of model) constraint tuple))
    (uses_in (syntax.Constrains constraint))
all_good model tables plan is constraint tuple kinds typed =
    let setting = (constraint_site (layout_of model) constraint tuple).setting in
    let tree = syntax.Constrains constraint in
    let sound = is_sound model in_net tree typed in
    let sets
    = or_parts (list_any denies_specified (conditions_in tree)) (list_any (uses_set setting) (uses_in tree))
    sound.monotone in
    each_more (λ u. IsUsed setting u × (uses_set setting u ≡ false))
    (IsGoodUse (VarIn plan tuple) NoSet (layout_of model) (constraint_site (layout_of model) constraint tuple))
    (λ u h. net_good model tables plan is constraint tuple kinds u h.0 h.1) (uses_in tree)
    (each_both (IsUsed setting) (λ u. uses_set setting u ≡ false) (uses_in tree) (all_used setting tree sound)
    (each_false (uses_set setting) (uses_in tree) sets.1))

-- what is asked of values is a part of CONDITION, and the restriction's own
abbrev pub AreGood : (ℕ → Type 0) → Layout → Site → syntax.Condition → Type 0
AreGood V layout site c =
    (Each (λ r. Each (IsGoodUse V NoSet layout site) (uses_of_relation r)) (relations_of c))
    × (Each (λ o. IsGoodUse V NoSet layout site (as_set o)) (specified_in c))

abbrev pub IfGood : (ℕ → Type 0) → Layout → Site → Option syntax.Condition → Type 0
IfGood V layout site None = Unit {0}
IfGood V layout site (Some c) = AreGood V layout site c

pub both_good : (V : ℕ → Type 0) (layout : Layout) (site : Site) (a b : Option syntax.Condition)
    → IfGood V layout site a
    → IfGood V layout site b → IfGood V layout site (both a b)
both_good V layout site None b h k = k
both_good V layout site (Some a) None h k = h
both_good V layout site (Some a) (Some b) h k = (
  each_joined (λ r. Each (IsGoodUse V NoSet layout site) (uses_of_relation r)) (relations_of a) (relations_of b) h.0
      k.0,
  each_joined (λ o. IsGoodUse V NoSet layout site (as_set o)) (specified_in a) (specified_in b) h.1 k.1,
)

without_good : (V : ℕ → Type 0) (layout : Layout) (site : Site) (c : syntax.Condition) → AreGood V layout site c
    → IfGood V layout site (without_parts c)
without_good V layout site (syntax.And left right) h =
    let rs
    = each_split (λ r. Each (IsGoodUse V NoSet layout site) (uses_of_relation r)) (relations_of left)
    (relations_of right) h.0 in
    let os = each_split (λ o. IsGoodUse V NoSet layout site (as_set o)) (specified_in left) (specified_in right) h.1 in
    both_good V layout site (without_parts left) (without_parts right) (without_good V layout site left (rs.0, os.0))
    (without_good V layout site right (rs.1, os.1))
without_good V layout site (syntax.PartOf part whole) h = tt
without_good V layout site (syntax.Or left right) h = h
without_good V layout site (syntax.Not condition) h = h
without_good V layout site (syntax.Related relation) h = h
without_good V layout site (syntax.Specified operand) h = h

pub asked_good : (V : ℕ → Type 0) (layout : Layout) (site : Site) (o : Option syntax.Condition)
    → Each (AreGood V layout site) (if_there (λ c. c ∷ []) o) → IfGood V layout site (asked_of o)
asked_good V layout site None h = tt
asked_good V layout site (Some c) h = without_good V layout site c h.0

pub own_good : (V : ℕ → Type 0) (layout : Layout) (site : Site) (o : Option syntax.Condition)
    → Each (AreGood V layout site) (if_there (λ c. c ∷ []) o) → IfGood V layout site o
own_good V layout site None h = tt
own_good V layout site (Some c) h = h.0

if_has : (V : ℕ → Type 0) (layout : Layout) (site : Site) (o : Option syntax.Condition) → IfGood V layout site o
    → ConditionHas V AnySum NoSet (condition_if (option_map (condition_at layout site) o))
if_has V layout site None h = tt
if_has V layout site (Some c) h = condition_has V AnySum NoSet layout site tt c h.0 h.1

-- what a demand reads
abbrev pub DemandHas : (ℕ → Type 0) → Demand → Type 0
DemandHas V (among v restriction) = V v
DemandHas V (compare relation left right) = TermHas V AnySum left × TermHas V AnySum right
DemandHas V (equate left right) = TermHas V AnySum left × TermHas V AnySum right
DemandHas V (by_table table columns) = Each (λ b. Each V (operand_vars b.operand)) columns
DemandHas V never = Unit {0}
DemandHas V (last v) = Unit {0}
DemandHas V (line i) = Unit {0}

terms_has : (V : ℕ → Type 0) (layout : Layout) (site : Site) (relator : Relator) (left right : syntax.Term)
    → TermHas V AnySum (term_at layout site left) → TermHas V AnySum (term_at layout site right)
    → DemandHas V (of_terms layout site relator left right)
terms_has V layout site relators.Equal left right h k = (h, k)
terms_has V layout site relators.Unequal left right h k = (h, k)
terms_has V layout site relators.Less left right h k = (h, k)
terms_has V layout site relators.LessEqual left right h k = (h, k)
terms_has V layout site relators.Greater left right h k = (h, k)
terms_has V layout site relators.GreaterEqual left right h k = (h, k)

-- a lone operand's term is its variable
lone_has : (V : ℕ → Type 0) (layout : Layout) (site : Site) (term : syntax.Term) (operand : Operand)
    → lone_of term ≡ Some operand
    → TermHas V AnySum (term_at layout site term) → V (var_meant layout site operand)
lone_has V layout site (syntax.Number leaf) operand e h = absurd (cc)
lone_has V layout site (syntax.Text leaf) operand e h = absurd (cc)
lone_has V layout site (syntax.Operand o) operand e h =
    let same : o ≡ operand = cc in subst (λ x. V (var_meant layout site x)) same h
lone_has V layout site (syntax.Negated term) operand e h = absurd (cc)
lone_has V layout site (syntax.Combined left operator right) operand e h = absurd (cc)
lone_has V layout site (syntax.Applied function term) operand e h = absurd (cc)
lone_has V layout site (syntax.SumOfParts name) operand e h = absurd (cc)
lone_has V layout site syntax.CountOfParts operand e h = absurd (cc)

right_has : (V : ℕ → Type 0) (layout : Layout) (site : Site) (relator : Relator) (left right : syntax.Term)
    → TermHas V AnySum (term_at layout site left) → TermHas V AnySum (term_at layout site right) → (o : Option Operand)
    → lone_of right ≡ o → (a : Option Value) → DemandHas V (of_right_operand layout site o a relator left right)
right_has V layout site relator left right h k None e a = terms_has V layout site relator left right h k
right_has V layout site relator left right h k (Some operand) e None = terms_has V layout site relator left right h k
right_has V layout site relator left right h k (Some operand) e (Some a) = lone_has V layout site right operand e k

left_has : (V : ℕ → Type 0) (layout : Layout) (site : Site) (relator : Relator) (left right : syntax.Term)
    → TermHas V AnySum (term_at layout site left) → TermHas V AnySum (term_at layout site right) → (o : Option Operand)
    → lone_of left ≡ o → (a : Option Value) → DemandHas V (of_left_operand layout site o a relator left right)
left_has V layout site relator left right h k (Some operand) e (Some a) = lone_has V layout site left operand e h
left_has V layout site relator left right h k (Some operand) e None = terms_has V layout site relator left right h k
left_has V layout site relator left right h k None e a =
    right_has V layout site relator left right h k (lone_of right) refl (literal_of layout.texts left)

-- a set stands nowhere, so both sides of a relation are terms
left_term : (V : ℕ → Type 0) (layout : Layout) (site : Site) (b : Bool) (term : syntax.Term)
    → Each (IsGoodUse V NoSet layout site) (uses_of_left b term) → TermHas V AnySum (term_at layout site term)
left_term V layout site b term h = by (lone_of term) refl
  where
    value : (operand : Operand) → (c : Bool) → is_set_meant site operand ≡ c
        → Each (IsGoodUse V NoSet layout site) (uses_of_left b (syntax.Operand operand))
        → V (var_meant layout site operand)
    value operand true e k = absurd ((lone_good V NoSet layout site b operand k).set e)
    value operand false e k = (lone_good V NoSet layout site b operand k).value e

    of_lone : (t : syntax.Term) (operand : Operand) → lone_of t ≡ Some operand
        → Each (IsGoodUse V NoSet layout site) (uses_of_left b t) → TermHas V AnySum (term_at layout site t)
    of_lone (syntax.Number leaf) operand e k = absurd (cc)
    of_lone (syntax.Text leaf) operand e k = absurd (cc)
    of_lone (syntax.Operand o) operand e k = value o (is_set_meant site o) refl k
    of_lone (syntax.Negated t) operand e k = absurd (cc)
    of_lone (syntax.Combined left operator right) operand e k = absurd (cc)
    of_lone (syntax.Applied function t) operand e k = absurd (cc)
    of_lone (syntax.SumOfParts name) operand e k = absurd (cc)
    of_lone syntax.CountOfParts operand e k = absurd (cc)

    by : (o : Option Operand) → lone_of term ≡ o → TermHas V AnySum (term_at layout site term)
    by None e = used_term_has V AnySum NoSet layout site tt term (left_uses (IsGoodUse V NoSet layout site) b term e h)
    by (Some operand) e = of_lone term operand e h

relation_demand_has : (V : ℕ → Type 0) (layout : Layout) (site : Site) (relation : syntax.Relation)
    → Each (IsGoodUse V NoSet layout site) (uses_of_relation relation)
    → DemandHas V (relation_demand layout site relation)
relation_demand_has V layout site (syntax.Compared left relator right) h =
    let sides
    = each_split (IsGoodUse V NoSet layout site) (uses_of_left (is_equality relator && is_literal right) left)
    (uses_of_term right) h in
    left_has V layout site relator left right
    (left_term V layout site (is_equality relator && is_literal right) left sides.0)
    (used_term_has V AnySum NoSet layout site tt right sides.1) (lone_of left) refl (literal_of layout.texts right)
relation_demand_has V layout site (syntax.Within operand listed) h =
    let first = h.0 in by (is_set_meant site operand) refl first
  where
    by : (b : Bool) → is_set_meant site operand ≡ b → IsGoodUse V NoSet layout site (as_set operand)
        → V (var_meant layout site operand)
    by true e good = absurd (good.good.set e)
    by false e good = good.good.value e

-- a table call is given literals and operands alone
given_has : (V : ℕ → Type 0) (layout : Layout) (site : Site) (value : syntax.Term)
    → (not (is_literal value) && not (is_operand value)) ≡ false → TermHas V AnySum (term_at layout site value)
    → Each V (operand_vars (given_operand layout site (literal_of layout.texts value) (lone_of value)))
given_has V layout site (syntax.Number leaf) h k = tt
given_has V layout site (syntax.Text leaf) h k = tt
given_has V layout site (syntax.Operand operand) h k = (k, tt)
given_has V layout site (syntax.Negated (syntax.Number leaf)) h k = tt
given_has V layout site (syntax.Negated (syntax.Text leaf)) h k = absurd (cc)
given_has V layout site (syntax.Negated (syntax.Operand operand)) h k = absurd (cc)
given_has V layout site (syntax.Negated (syntax.Negated term)) h k = absurd (cc)
given_has V layout site (syntax.Negated (syntax.Combined left operator right)) h k = absurd (cc)
given_has V layout site (syntax.Negated (syntax.Applied function term)) h k = absurd (cc)
given_has V layout site (syntax.Negated (syntax.SumOfParts name)) h k = absurd (cc)
given_has V layout site (syntax.Negated syntax.CountOfParts) h k = absurd (cc)
given_has V layout site (syntax.Combined left operator right) h k = absurd (cc)
given_has V layout site (syntax.Applied function term) h k = absurd (cc)
given_has V layout site (syntax.SumOfParts name) h k = absurd (cc)
given_has V layout site syntax.CountOfParts h k = absurd (cc)

columns_have : (V : ℕ → Type 0) (layout : Layout) (site : Site) (table : List ℕ) (bindings : List syntax.Binding)
    → Each (λ t. Each (IsGoodUse V NoSet layout site) (uses_of_term t)) (map (λ binding. binding.value) bindings)
    → Each (λ b. is_computed b ≡ false) bindings
    → Each (λ b. Each V (operand_vars b.operand)) (map (binding_at layout site table) bindings)
columns_have V layout site table [] h k = tt
columns_have V layout site table (b ∷ bindings) h k = (
  given_has V layout site b.value k.0 (used_term_has V AnySum NoSet layout site tt b.value h.0),
  columns_have V
      layout site table bindings h.1 k.1,
)

demand_has : (V : ℕ → Type 0) (layout : Layout) (site : Site) (demand : syntax.Demand)
    → Each (λ r. Each (IsGoodUse V NoSet layout site) (uses_of_relation r)) (relation_of_demand demand)
    → Each (λ call. Each (λ t. Each (IsGoodUse V NoSet layout site) (uses_of_term t)) (values_in call))
    (call_of_demand demand)
    → Each (λ call. list_any is_computed call.bindings ≡ false) (call_of_demand demand)
    → DemandHas V (demand_at layout site demand)
demand_has V layout site (syntax.Relates relation) h k l = relation_demand_has V layout site relation h.0
demand_has V layout site (syntax.Holds call) h k l =
    columns_have V layout site call.table.name call.bindings k.0 (each_false is_computed call.bindings l.0)
demand_has V layout site syntax.Never h k l = tt

-- what is inferred, each once
distinct_has : (V : ℕ → Type 0) (ns : List ℕ) → Each V ns → Each V (distinct ns)
distinct_has V [] h = tt
distinct_has V (n ∷ ns) h = (
  h.0,
  each_more (λ m. (not (n == m) ≡ true) × V m) V (λ m k. k.1) (filter (λ m. not (n == m)) (distinct ns))
      (each_left V (λ m. not (n == m)) (distinct ns) (distinct_has V ns h.1)),
)

distinct_once : (ns : List ℕ) → are_apart (λ v w. v == w) (distinct ns) ≡ true
distinct_once [] = refl
distinct_once (n ∷ ns) =
    let rest = filter (λ m. not (n == m)) (distinct ns) in
    and_from (not (list_any (λ m. n == m) rest)) (are_apart (λ v w. v == w) rest)
    (none_from (λ m. n == m) rest (left_pass (λ m. not (n == m)) (distinct ns)))
    (apart_left (λ v w. v == w) (λ m. not (n == m)) (distinct ns) (distinct_once ns))

-- a tuple has no slot twice
turned_any : (i : ℕ) (tuple : List ℕ) → list_any (λ j. i == j) tuple ≡ list_any (λ j. j == i) tuple
turned_any i [] = refl
turned_any i (j ∷ tuple) = ap (λ b. b || list_any (λ j. i == j) tuple) (turned i j)
    ∙ ap (λ b. (j == i) || b) (turned_any i tuple)
  where
    turned : (a b : ℕ) → (a == b) ≡ (b == a)
    turned a b = by (a == b) refl (b == a) refl
      where
        by : (x : Bool) → (a == b) ≡ x → (y : Bool) → (b == a) ≡ y → x ≡ y
        by true e true f = refl
        by false e false f = refl
        by true e false f = sym (eq-eqb b a (sym (eqb-true a b e))) ∙ f
        by false e true f = sym e ∙ eq-eqb a b (sym (eqb-true b a f))

tuple_apart : (tuple : List ℕ) → are_different tuple ≡ true → are_apart (λ i j. i == j) tuple ≡ true
tuple_apart [] h = refl
tuple_apart (i ∷ tuple) h =
    let parts = and_parts (not (list_any (λ j. j == i) tuple)) (are_different tuple) h in
    and_from (not (list_any (λ j. i == j) tuple)) (are_apart (λ i j. i == j) tuple)
    (ap not (turned_any i tuple) ∙ parts.0)
    (tuple_apart tuple parts.1)

-- what a draft of a constraint has
record IsStaying (plan : Plan) (d : Draft) : Type 0 where
  some : nat_lt 0 (length d.slots) ≡ true
  few : nat_le (length d.slots) 4 ≡ true
  apart : are_apart (λ i j. i == j) d.slots ≡ true
  condition : ConditionHas (VarIn plan d.slots) AnySum NoSet (condition_if d.condition)
  demand : DemandHas (VarIn plan d.slots) d.demand
  inferred : list_all (is_at plan d.slots) d.inferred ≡ true
  dependency : is_some d.dependency ≡ true
  once : are_apart (λ v w. v == w) d.inferred ≡ true

record IsAtOwnSlots (plan : Plan) (d : Draft) : Type 0 where
  of_net : is_of_constraint (kind_of d.demand) ≡ true → IsStaying plan d
  own : is_of_constraint (kind_of d.demand) ≡ false → (d.slots ≡ []) × (d.inferred ≡ [])

objects_there : (model : Model) → KeepsObjects model → (d : ℕ) (constraint : syntax.Constraint)
    → tree_of model d ≡ Some (syntax.Constrains constraint) → nat_lt 0 (length constraint.objects) ≡ true
objects_there model keeps d constraint e = by (slice_get model.dependencies d) refl
  where
    one : (tree : syntax.Dependency) → tree ≡ syntax.Constrains constraint → has_objects tree ≡ true
        → nat_lt 0 (length constraint.objects) ≡ true
    one tree same h = sym (ap has_objects same) ∙ h

    by : (o : Option NamedDependency) → slice_get model.dependencies d ≡ o → nat_lt 0 (length constraint.objects) ≡ true
    by None f = absurd (let gone : None ≡ Some (syntax.Constrains constraint) =
        sym (ap (option_map (λ named. syntax.dependency_of named.tree)) f) ∙ e in cc)
    by (Some x) f =
        let same : Some (syntax.dependency_of x.tree) ≡ Some (syntax.Constrains constraint) =
        sym (ap (option_map (λ named. syntax.dependency_of named.tree)) f) ∙ e in
        one (syntax.dependency_of x.tree) (cc)
        (passes_there (λ named. has_objects (syntax.dependency_of named.tree)) model.dependencies d x keeps.objects f)

net_stays : (model : Model) (tables : List VariantTable) (plan : Plan) → IsPlanOf model tables plan → KeepsObjects model
    → (d : ℕ) (constraint : syntax.Constraint) (tuple : List ℕ) (number : ℕ) (restriction : syntax.Restriction)
    → IsOfNet model d constraint tuple restriction
    → IsStaying plan (restriction_draft (layout_of model) d constraint tuple number restriction)
net_stays model tables plan is keeps d constraint tuple number restriction of =
    let layout = layout_of model in
    let site = constraint_site (layout_of model) constraint tuple in
    let tree = syntax.Constrains constraint in
    let V : ℕ → Type 0 = VarIn plan tuple in
    let Good : Use → Type 0
    = IsGoodUse (VarIn plan tuple) NoSet (layout_of model) (constraint_site (layout_of model) constraint tuple) in
    let parts = and_parts (are_of_kinds layout constraint.objects tuple && are_different tuple)
    (are_parts_met layout constraint.objects constraint.condition tuple) of.matching in
    let kinds = and_parts (are_of_kinds layout constraint.objects tuple) (are_different tuple) parts.0 in
    let good = all_good model tables plan is constraint tuple kinds.0 of.sound in
    let sound = is_sound model in_net tree of.sound in
    let rs = constraint.restrictions in
    let conditions
    = each_split (AreGood V layout site) (if_there (λ c. c ∷ []) constraint.condition)
    (flat_map condition_of_restriction rs)
    (uses_by_condition Good tree good) in
    let own = each_here (λ r. Each (AreGood V layout site) (condition_of_restriction r)) rs of.place restriction
    (each_unflat (AreGood V layout site) condition_of_restriction rs conditions.1) of.there in
    let relations
    = each_here (λ r. Each (λ x. Each Good (uses_of_relation x)) (relation_of_demand r.demand)) rs of.place
    restriction
    (each_unflat (λ x. Each Good (uses_of_relation x)) (λ r. relation_of_demand r.demand) rs
    (uses_by_demand Good tree good)) of.there in
    let calls = flat_map (λ r. call_of_demand r.demand) rs in
    let values
    = each_here (λ r. Each (λ call. Each (λ t. Each Good (uses_of_term t)) (values_in call))
    (call_of_demand r.demand)) rs of.place
    restriction
    (each_unflat (λ call. Each (λ t. Each Good (uses_of_term t)) (values_in call)) (λ r. call_of_demand r.demand) rs
    (each_unflat (λ t. Each Good (uses_of_term t)) values_in calls (uses_by_term Good tree good))) of.there in
    let computed
    = each_here (λ r. Each (λ call. list_any is_computed call.bindings ≡ false) (call_of_demand r.demand)) rs
    of.place restriction
    (each_unflat (λ call. list_any is_computed call.bindings ≡ false) (λ r. call_of_demand r.demand) rs
    (each_false (λ call. list_any is_computed call.bindings) calls sound.terms)) of.there in
    let names = uses_by_name Good tree good in
    let size = of.size in
    record {
      some = ap (nat_lt 0) of.size ∙ objects_there model keeps d constraint of.tree;
      few = le-leb (length tuple) 4
          (let most = ltb-false 4 (length constraint.objects) sound.objects in omega (arith, most, size));
      apart = tuple_apart tuple kinds.1;
      condition = if_has V layout site (both (asked_of constraint.condition) restriction.condition)
          (both_good V layout site (asked_of constraint.condition) restriction.condition
          (asked_good V layout site constraint.condition conditions.0)
          (own_good V layout site restriction.condition own));
      demand = demand_has V layout site restriction.demand relations values computed;
      inferred = each_passes V (is_at plan tuple) (λ v h. h)
          (distinct (map (var_meant layout site) constraint.inferences))
          (distinct_has V (map (var_meant layout site) constraint.inferences)
          (each_mapped V (var_meant layout site) constraint.inferences
          (each_more (λ o. Good (as_value o)) (λ o. V (var_meant layout site o)) (λ o h. h.good.value (h.single refl))
          constraint.inferences names)));
      dependency = refl;
      once = distinct_once (map (var_meant layout site) constraint.inferences);
    }

all_stay : (model : Model) (tables : List VariantTable) (plan : Plan) → IsPlanOf model tables plan → KeepsObjects model
    → refusals.first_of (type_faults (layout_of model)) ≡ None
    → Each (IsAtOwnSlots plan) (rule_drafts (layout_of model))
all_stay model tables plan is keeps sound =
    let layout = layout_of model in
    each_joined (IsAtOwnSlots plan) (constraints_drafts layout)
    (last_drafts layout ++ slot_drafts_from layout 0 layout.standings)
    (each_of_nets (IsAtOwnSlots plan) model sound (λ d constraint tuple number restriction of. record {
      of_net = λ h. net_stays model tables plan is keeps d constraint tuple number restriction of;
      own = λ h. absurd (let both : true
          ≡ false = sym (demand_constrains layout (constraint_site layout constraint tuple) restriction.demand)
          ∙ h in cc);
    }))
    (each_joined (IsAtOwnSlots plan) (last_drafts layout) (slot_drafts_from layout 0 layout.standings)
    (each_last (IsAtOwnSlots plan) layout (λ v. record { of_net = λ h. absurd (cc); own = λ h. (refl, refl) }))
    (each_slot_draft (IsAtOwnSlots plan) layout (λ i. (
      record { of_net = λ h. absurd (cc); own = λ h. (refl, refl) },
      λ site number asked some. record { of_net = λ h. absurd (cc); own = λ h. (refl, refl) },
    )) 0 layout.standings))

-- a condition without sets
no_sets : (plan : Plan) (slots : List ℕ) (c : trees.Condition) → ConditionHas (VarIn plan slots) AnySum NoSet c
    → ConditionHas (VarIn plan slots) AnySum (SetIn plan slots) c
no_sets plan slots trees.Always h = tt
no_sets plan slots (trees.Compared r a b) h = h
no_sets plan slots (trees.IsIn v pieces) h = h
no_sets plan slots (trees.Specified v) h = h
no_sets plan slots (trees.Holds set text) h = absurd h
no_sets plan slots (trees.Filled set) h = absurd h
no_sets plan slots (trees.Not c) h = no_sets plan slots c h
no_sets plan slots (trees.And c d) h = (no_sets plan slots c h.0, no_sets plan slots d h.1)
no_sets plan slots (trees.Or c d) h = (no_sets plan slots c h.0, no_sets plan slots d h.1)

-- a plan's rule by its draft
condition_vars : (model : Model) (tables : List VariantTable) (plan : Plan) → IsPlanOf model tables plan
    → (slots : List ℕ) (n : ℕ)
    (c : trees.Condition) → slice_get (conditions_of (drafts_of (layout_of model))) n ≡ Some c
    → ConditionHas (VarIn plan slots) AnySum NoSet c
    → list_all (is_at plan slots) (vars_of_condition (slice_get plan.conditions n)) ≡ true
condition_vars model tables plan is slots n c e h =
    let found
    = made_from condition_of plan.conditions (conditions_of (drafts_of (layout_of model))) is.conditions n c e in
    ap (λ o. list_all (is_at plan slots) (vars_of_condition o)) found.1
    ∙ condition_reads plan slots AnySum found.0
    (no_sets plan slots (condition_of found.0) (subst (ConditionHas (VarIn plan slots) AnySum NoSet) (sym found.2) h))

term_vars : (model : Model) (tables : List VariantTable) (plan : Plan) → IsPlanOf model tables plan
    → (slots : List ℕ) (n : ℕ)
    (t : trees.Term) → slice_get (terms_of (drafts_of (layout_of model))) n ≡ Some t
    → TermHas (VarIn plan slots) AnySum t
    → list_all (is_at plan slots) (vars_of_term (slice_get plan.terms n)) ≡ true
term_vars model tables plan is slots n t e h =
    let found = made_from trees.term_of plan.terms (terms_of (drafts_of (layout_of model))) is.terms n t e in
    ap (λ o. list_all (is_at plan slots) (vars_of_term o)) found.1
    ∙ term_reads plan slots AnySum found.0 (subst (TermHas (VarIn plan slots) AnySum) (sym found.2) h)

both_terms : (model : Model) (tables : List VariantTable) (plan : Plan) → IsPlanOf model tables plan
    → (slots : List ℕ) (t : ℕ)
    (left right : trees.Term) → StandFrom (terms_of (drafts_of (layout_of model))) t (left ∷ right ∷ [])
    → TermHas (VarIn plan slots) AnySum left → TermHas (VarIn plan slots) AnySum right
    → list_all (is_at plan slots) (vars_of_term (slice_get plan.terms t) ++ vars_of_term (slice_get plan.terms (suc t)))
    ≡ true
both_terms model tables plan is slots t left right ts h k =
    let all = terms_of (drafts_of (layout_of model)) in
    list_all-append (is_at plan slots) (vars_of_term (slice_get plan.terms t))
    (vars_of_term (slice_get plan.terms (suc t)))
    ∙ and_from (list_all (is_at plan slots) (vars_of_term (slice_get plan.terms t)))
    (list_all (is_at plan slots) (vars_of_term (slice_get plan.terms (suc t))))
    (term_vars model tables plan is slots t left (stand_first all t left (right ∷ []) ts) h)
    (term_vars model tables plan is slots (suc t) right
    (stand_first all (suc t) right [] (stand_rest all t left (right ∷ []) ts)) k)

columns_vars : (plan : Plan) (slots : List ℕ) (columns : List Binding)
    → Each (λ b. Each (VarIn plan slots) (operand_vars b.operand)) columns
    → list_all (is_at plan slots) (flat_map (λ b. operand_vars b.operand) columns) ≡ true
columns_vars plan slots columns h =
    each_passes (VarIn plan slots) (is_at plan slots) (λ v k. k) (flat_map (λ b. operand_vars b.operand) columns)
    (each_flat (VarIn plan slots) (λ b. operand_vars b.operand) columns h)

demand_vars : (model : Model) (tables : List VariantTable) (plan : Plan) → IsPlanOf model tables plan
    → (slots : List ℕ) (t : ℕ)
    (demand : Demand) → StandFrom (terms_of (drafts_of (layout_of model))) t (demand_terms demand)
    → DemandHas (VarIn plan slots) demand
    → is_of_constraint (kind_of demand) ≡ true
    → list_all (is_at plan slots) (kind_vars plan (kind_from t demand)) ≡ true
demand_vars model tables plan is slots t (among v restriction) ts h of = and_from (is_at plan slots v) true h refl
demand_vars model tables plan is slots t (compare relation left right) ts h of =
    both_terms model tables plan is slots t left right ts h.0 h.1
demand_vars model tables plan is slots t (equate left right) ts h of =
    both_terms model tables plan is slots t left right ts h.0 h.1
demand_vars model tables plan is slots t (by_table table columns) ts h of = columns_vars plan slots columns h
demand_vars model tables plan is slots t never ts h of = refl
demand_vars model tables plan is slots t (last v) ts h of = absurd (cc)
demand_vars model tables plan is slots t (line i) ts h of = absurd (cc)

stays : (model : Model) (tables : List VariantTable) (plan : Plan) → IsPlanOf model tables plan → (c t : ℕ) (d : Draft)
    → IsAtOwnSlots plan d → StandFrom (conditions_of (drafts_of (layout_of model))) c (rule_brings.conditions d)
    → StandFrom (terms_of (drafts_of (layout_of model))) t (rule_brings.terms d)
    → stays_at_its_slots plan (rule_from c t d) ≡ true
stays model tables plan is c t d at cs ts =
    ap (λ b. if b then test else ((length d.slots == 0) && (length d.inferred == 0))) (constraint_same t d.demand)
    ∙ by (is_of_constraint (kind_of d.demand)) refl
  where
    test : Bool
    test =
        (((nat_lt 0 (length d.slots) && nat_le (length d.slots) 4) && are_apart (λ i j. i == j) d.slots)
        && (list_all (is_at plan d.slots) (rule_vars plan (rule_from c t d))
        && list_all (is_at plan d.slots) d.inferred))
        && (is_some d.dependency && are_apart (λ v w. v == w) d.inferred)

    by : (b : Bool) → is_of_constraint (kind_of d.demand) ≡ b
        → (if b then test else ((length d.slots == 0) && (length d.inferred == 0))) ≡ true
    by false e = let none = at.own e in
        and_from (length d.slots == 0) (length d.inferred == 0) (ap (λ l. length l == 0) none.0)
        (ap (λ l. length l == 0) none.1)
    by true e =
        let s = at.of_net e in
        let number = number_for c d.condition in
        let conditions = vars_of_condition (slice_get plan.conditions number) in
        let kinds = kind_vars plan (kind_from t d.demand) in
        and_from (((nat_lt 0 (length d.slots) && nat_le (length d.slots) 4) && are_apart (λ i j. i == j) d.slots)
        && (list_all (is_at plan d.slots) (conditions ++ kinds) && list_all (is_at plan d.slots) d.inferred))
        (is_some d.dependency && are_apart (λ v w. v == w) d.inferred)
        (and_from ((nat_lt 0 (length d.slots) && nat_le (length d.slots) 4) && are_apart (λ i j. i == j) d.slots)
        (list_all (is_at plan d.slots) (conditions ++ kinds) && list_all (is_at plan d.slots) d.inferred)
        (and_from (nat_lt 0 (length d.slots) && nat_le (length d.slots) 4) (are_apart (λ i j. i == j) d.slots)
        (and_from (nat_lt 0 (length d.slots)) (nat_le (length d.slots) 4) s.some s.few) s.apart)
        (and_from (list_all (is_at plan d.slots) (conditions ++ kinds)) (list_all (is_at plan d.slots) d.inferred)
        (list_all-append (is_at plan d.slots) conditions kinds
        ∙ and_from (list_all (is_at plan d.slots) conditions) (list_all (is_at plan d.slots) kinds)
        (condition_vars model tables plan is d.slots number (condition_if d.condition)
        (condition_stands (drafts_of (layout_of model)) c d.condition cs) s.condition)
        (demand_vars model tables plan is d.slots t d.demand ts s.demand e)) s.inferred))
        (and_from (is_some d.dependency) (are_apart (λ v w. v == w) d.inferred) s.dependency s.once)

pub own_slots : (model : Model) (tables : List VariantTable) (plan : Plan) → IsPlanOf model tables plan
    → KeepsObjects model
    → refusals.first_of (type_faults (layout_of model)) ≡ None → list_all (stays_at_its_slots plan) plan.rules ≡ true
own_slots model tables plan is keeps sound =
    let drafts = drafts_of (layout_of model) in
    each_passes (λ x. stays_at_its_slots plan x ≡ true) (stays_at_its_slots plan) (λ x h. h) plan.rules
    (subst (Each (λ x. stays_at_its_slots plan x ≡ true)) (sym is.rules)
    (numbered_each rule_brings rule_from (IsAtOwnSlots plan) (λ x. stays_at_its_slots plan x ≡ true)
    (conditions_of drafts) (terms_of drafts)
    (stays model tables plan is) 1 0 drafts.rules (all_stay model tables plan is keeps sound) (rule_conditions drafts)
    (rule_terms drafts)))
