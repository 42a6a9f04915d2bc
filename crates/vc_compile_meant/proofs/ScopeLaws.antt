-- Conditions and terms of a plan read what can be named where they stand.
use Rattle.std.proofs.Common.{◌≡◌, ℕ, suc, ◌+◌, inl, inr, Bool, true, false, ◌||◌, List, [], ◌∷◌, ◌++◌, map, flat_map}
use Rattle.std.proofs.Common.{Option, Some, None, refl, sym, ap, ◌∙◌, arith, subst}
use Rattle.std.specs.Prelude.{◌==◌, slice_get}
use Rattle.std.specs.List.{list_all, list_any}
use Rattle.std.proofs.lemmas.Bool.{and_from, eq-eqb, or_left, or_right}
use Rattle.std.proofs.lemmas.List.Folds.{list_all-append}
use Rattle.vc_model_parts.specs.declared.parts.BillItem.{BillItem}
use Rattle.vc_model_parts.specs.declared.parts.Characteristic.{Characteristic}
use Rattle.vc_model_parts.specs.declared.parts.Component.{Component}
use Rattle.vc_model_parts.specs.declared.parts.Component.TheVariants as components
use Rattle.vc_model_parts.specs.declared.parts.Model.{Model}
use Rattle.vc_model_parts.specs.declared.parts.Operation as parts
use Rattle.vc_plan.specs.RuleShapes.{is_among, is_at}
use Rattle.vc_plan.specs.Scopes.{asks_within, guard_own, is_set_at, line_own, line_scope, means_within, operation_own}
use Rattle.vc_plan.specs.Scopes.{requirement_own, scope, scope_if, selection_within, sets_read, with_parent}
use Rattle.vc_plan.specs.Seen.{parent_in, slot_in}
use Rattle.vc_plan.specs.Showing.{slot_of_named, slot_of_set}
use Rattle.vc_plan.specs.Reads.{vars_in, vars_read}
use Rattle.vc_plan.specs.declared.conditions.Condition.{Condition as StoredCondition}
use Rattle.vc_plan.specs.declared.conditions.Condition.TheVariants as conditions
use Rattle.vc_plan.specs.declared.conditions.Piece.{Piece}
use Rattle.vc_plan.specs.declared.plans.Named.{Named}
use Rattle.vc_plan.specs.declared.plans.Plan.{Plan}
use Rattle.vc_plan.specs.declared.plans.Slot.{Slot}
use Rattle.vc_plan.specs.declared.terms.Term.{Term as StoredTerm}
use Rattle.vc_plan.specs.declared.terms.Term.TheVariants as terms
use Rattle.vc_syntax_tree.specs.Trees.{Condition, Counts, Dependency, Precondition, Procedure, Selection, Constrains}
use Rattle.vc_syntax_tree.specs.Trees.{Term, term_of}
use Rattle.vc_table.specs.declared.table.VariantTable.{VariantTable}
use Rattle.vc_types.specs.Faults.{fault_of}
use Rattle.vc_types.specs.Occurrences.{Use, uses_in}
use Rattle.vc_types.specs.Settings.{is_constraint, is_line, is_multiple}
use Rattle.vc_types.specs.declared.place.At.{At}
use Rattle.vc_types.specs.declared.place.At.TheVariants as at
use Rattle.vc_compile_plan.specs.Conditions.{condition_at}
use Rattle.vc_compile_plan.specs.Layouts.{layout_of}
use Rattle.vc_compile_plan.specs.Numbering.{conditions_of, drafts_of, guard_brings, guard_from, guards_begin}
use Rattle.vc_compile_plan.specs.Numbering.{item_brings, line_from, line_terms_begin, lines_begin, operation_from}
use Rattle.vc_compile_plan.specs.Numbering.{operation_terms_begin, operations_begin, requirement_brings}
use Rattle.vc_compile_plan.specs.Numbering.{requirement_from, requirements_begin, selections_from, terms_of}
use Rattle.vc_compile_plan.specs.PlanOf.{IsPlanOf}
use Rattle.vc_compile_plan.specs.Places.{characteristic_site, operation_site, place_at, precondition_in}
use Rattle.vc_compile_plan.specs.Places.{preconditions_among, selection_in, selections_among, site_at}
use Rattle.vc_compile_plan.specs.Refusals as refusals
use Rattle.vc_compile_plan.specs.Refusals.{type_faults}
use Rattle.vc_compile_plan.specs.Shown.{Choice, GuardDraft, ItemDraft, RequirementDraft, choice_at, entries_of}
use Rattle.vc_compile_plan.specs.Shown.{guard_drafts, guards_among, guards_at, guards_of, is_configurable, line_at}
use Rattle.vc_compile_plan.specs.Shown.{line_choices, line_drafts, operation_at, operation_drafts, operations_in}
use Rattle.vc_compile_plan.specs.Shown.{requirement_drafts, requirements_at, requirements_of}
use Rattle.vc_compile_plan.specs.Sites.{characteristic_in, is_set_meant, named_at, set_meant, slot_meant, var_meant}
use Rattle.vc_compile_plan.specs.Slots.{bill_of, slots_of}
use Rattle.vc_compile_plan.specs.Terms.{term_at}
use Rattle.vc_compile_plan.specs.Trees as trees
use Rattle.vc_compile_plan.specs.Trees.{condition_of}
use Rattle.vc_compile_plan.specs.Uses.{uses_of_characteristic, uses_of_values}
use Rattle.vc_compile_plan.specs.Variables.{members_of}
use Rattle.vc_compile_valid.proofs.EachLaws.{Each, each_both, each_by_slot, each_flat, each_joined, each_mapped}
use Rattle.vc_compile_valid.proofs.EachLaws.{each_more, each_passes}
use Rattle.vc_compile_valid.proofs.ListLaws.{made_from}
use Rattle.vc_compile_valid.proofs.NamedLaws.{each_among, named_at_slot}
use Rattle.vc_compile_valid.proofs.NumberingLaws.{StandFrom, guard_conditions, line_conditions, line_terms, no_terms}
use Rattle.vc_compile_valid.proofs.NumberingLaws.{numbered_each, operation_conditions, operation_terms}
use Rattle.vc_compile_valid.proofs.NumberingLaws.{requirement_conditions}
use Rattle.vc_compile_valid.proofs.PlacedLaws.{stand_first, stand_rest}
use Rattle.vc_compile_meant.proofs.FaultLaws.{IsTypedAt, IsUsed, all_used, each_split, is_sound}
use Rattle.vc_compile_meant.proofs.MeaningLaws.{Where, meant_at, set_is, var_is}
use Rattle.vc_compile_meant.proofs.SoundLaws.{IsSoundLine, IsSoundOperation, asked_typed, entry_uses, line_place}
use Rattle.vc_compile_meant.proofs.SoundLaws.{operation_place, own_place, sound_at}
use Rattle.vc_compile_meant.proofs.TreeLaws.{ConditionHas, IsGoodUse, TermHas, condition_has, used_term_has}
use Rattle.vc_compile_meant.proofs.TreeLaws.{uses_by_condition, uses_by_term}

-- variables, and sets, of these slots
abbrev pub VarIn : Plan → List ℕ → ℕ → Type 0
VarIn plan slots v = is_at plan slots v ≡ true

abbrev pub SetIn : Plan → List ℕ → ℕ → Type 0
SetIn plan slots s = is_set_at plan slots s ≡ true

abbrev pub AnySum : ℕ → Type 0
AnySum slot = Unit {0}

-- what a tree in memory reads, by what it has
both_pass : {X : Type 0} (p : X → Bool) (xs ys : List X) → list_all p xs ≡ true → list_all p ys ≡ true
    → list_all p (xs ++ ys) ≡ true
both_pass p xs ys a b = list_all-append p xs ys ∙ and_from (list_all p xs) (list_all p ys) a b

pub term_reads : (plan : Plan) (slots : List ℕ) (W : ℕ → Type 0) (t : StoredTerm)
    → TermHas (VarIn plan slots) W (trees.term_of t)
    → list_all (is_at plan slots) (vars_in t) ≡ true
term_reads plan slots W (terms.Literal a) h = refl
term_reads plan slots W (terms.Read v) h = and_from (is_at plan slots v) true h refl
term_reads plan slots W (terms.PartSum slot c) h = refl
term_reads plan slots W (terms.PartCount slot) h = refl
term_reads plan slots W (terms.Applied' function p a) h = term_reads plan slots W a h
term_reads plan slots W (terms.Joined' operator p a q b) h =
    both_pass (is_at plan slots) (vars_in a) (vars_in b) (term_reads plan slots W a h.0) (term_reads plan slots W b h.1)

pub condition_reads : (plan : Plan) (slots : List ℕ) (W : ℕ → Type 0) (c : StoredCondition)
    → ConditionHas (VarIn plan slots) W (SetIn plan slots) (condition_of c)
    → list_all (is_at plan slots) (vars_read c) ≡ true
condition_reads plan slots W conditions.Always h = refl
condition_reads plan slots W (conditions.Compared r a b) h =
    both_pass (is_at plan slots) (vars_in a) (vars_in b) (term_reads plan slots W a h.0) (term_reads plan slots W b h.1)
condition_reads plan slots W (conditions.IsIn v pieces) h = and_from (is_at plan slots v) true h refl
condition_reads plan slots W (conditions.Specified v) h = and_from (is_at plan slots v) true h refl
condition_reads plan slots W (conditions.Holds set text) h = refl
condition_reads plan slots W (conditions.Filled set) h = refl
condition_reads plan slots W (conditions.Not' p c) h = condition_reads plan slots W c h
condition_reads plan slots W (conditions.And' p c q d) h =
    both_pass (is_at plan slots) (vars_read c) (vars_read d) (condition_reads plan slots W c h.0)
    (condition_reads plan slots W d h.1)
condition_reads plan slots W (conditions.Or' p c q d) h =
    both_pass (is_at plan slots) (vars_read c) (vars_read d) (condition_reads plan slots W c h.0)
    (condition_reads plan slots W d h.1)

condition_sets : (plan : Plan) (slots : List ℕ) (W : ℕ → Type 0) (c : StoredCondition)
    → ConditionHas (VarIn plan slots) W (SetIn plan slots) (condition_of c)
    → list_all (is_set_at plan slots) (sets_read c) ≡ true
condition_sets plan slots W conditions.Always h = refl
condition_sets plan slots W (conditions.Compared r a b) h = refl
condition_sets plan slots W (conditions.IsIn v pieces) h = refl
condition_sets plan slots W (conditions.Specified v) h = refl
condition_sets plan slots W (conditions.Holds set text) h = and_from (is_set_at plan slots set) true h refl
condition_sets plan slots W (conditions.Filled set) h = and_from (is_set_at plan slots set) true h refl
condition_sets plan slots W (conditions.Not' p c) h = condition_sets plan slots W c h
condition_sets plan slots W (conditions.And' p c q d) h =
    both_pass (is_set_at plan slots) (sets_read c) (sets_read d) (condition_sets plan slots W c h.0)
    (condition_sets plan slots W d h.1)
condition_sets plan slots W (conditions.Or' p c q d) h =
    both_pass (is_set_at plan slots) (sets_read c) (sets_read d) (condition_sets plan slots W c h.0)
    (condition_sets plan slots W d h.1)

-- by their numbers
pub asked_within : (model : Model) (tables : List VariantTable) (plan : Plan) → IsPlanOf model tables plan
    → (slots : List ℕ)
    (W : ℕ → Type 0) (n : ℕ) (c : trees.Condition) → slice_get (conditions_of (drafts_of (layout_of model))) n ≡ Some c
    → ConditionHas (VarIn plan slots) W (SetIn plan slots) c
    → asks_within plan slots (slice_get plan.conditions n) ≡ true
asked_within model tables plan is slots W n c e h =
    let found
    = made_from condition_of plan.conditions (conditions_of (drafts_of (layout_of model))) is.conditions n c e in
    let has = subst (ConditionHas (VarIn plan slots) W (SetIn plan slots)) (sym found.2) h in
    ap (asks_within plan slots) found.1
    ∙ and_from (list_all (is_at plan slots) (vars_read found.0)) (list_all (is_set_at plan slots) (sets_read found.0))
    (condition_reads plan slots W found.0 has) (condition_sets plan slots W found.0 has)

pub meant_within : (model : Model) (tables : List VariantTable) (plan : Plan) → IsPlanOf model tables plan
    → (slots : List ℕ)
    (W : ℕ → Type 0) (n : ℕ) (t : trees.Term) → slice_get (terms_of (drafts_of (layout_of model))) n ≡ Some t
    → TermHas (VarIn plan slots) W t → means_within plan slots (slice_get plan.terms n) ≡ true
meant_within model tables plan is slots W n t e h =
    let found = made_from trees.term_of plan.terms (terms_of (drafts_of (layout_of model))) is.terms n t e in
    ap (means_within plan slots) found.1
    ∙ term_reads plan slots W found.0 (subst (TermHas (VarIn plan slots) W) (sym found.2) h)

-- what can be named at a slot
pub in_scope : (i k : ℕ) (slot : Slot) (at : At) → Where slot i at k
    → is_among (with_parent slot.parent (line_scope i)) (Some k) ≡ true
in_scope i k slot at place = by slot.parent refl place
  where
    own : k ≡ i → is_among (line_scope i) (Some k) ≡ true
    own e = or_left (i == k) ((0 == k) || false) (eq-eqb i k (sym e))

    root : k ≡ 0 → is_among (line_scope i) (Some k) ≡ true
    root e = or_right (i == k) ((0 == k) || false) (or_left (0 == k) false (eq-eqb 0 k (sym e)))

    by : (o : Option ℕ) → slot.parent ≡ o → Where slot i at k → is_among (with_parent o (line_scope i)) (Some k) ≡ true
    by None e (inl same) = own same
    by None e (inr (inl first)) = root first
    by None e (inr (inr above)) = absurd (let none = sym e ∙ above.1 in cc)
    by (Some p) e (inl same) = or_right (p == k) (is_among (line_scope i) (Some k)) (own same)
    by (Some p) e (inr (inl first)) = or_right (p == k) (is_among (line_scope i) (Some k)) (root first)
    by (Some p) e (inr (inr above)) =
        let both : Some p ≡ Some k = sym e ∙ above.1 in
        let same : p ≡ k = cc in or_left (p == k) (is_among (line_scope i) (Some k)) (eq-eqb p k same)

pub in_line_scope : (i k : ℕ) (slot : Slot) (at : At) → is_line at ≡ true → Where slot i at k
    → is_among (line_scope i) (Some k) ≡ true
in_line_scope i k slot at line (inl same) = or_left (i == k) ((0 == k) || false) (eq-eqb i k (sym same))
in_line_scope i k slot at line (inr (inl first)) =
    or_right (i == k) ((0 == k) || false) (or_left (0 == k) false (eq-eqb 0 k (sym first)))
in_line_scope i k slot at line (inr (inr above)) = absurd (let both = sym line ∙ above.0 in cc)

-- an operand of a slot's dependency is a variable or a set of what can be named
pub good_use : (model : Model) (tables : List VariantTable) (plan : Plan) → IsPlanOf model tables plan
    → (i : ℕ) (slot : Slot)
    → slice_get (slots_of model) i ≡ Some slot → (at : At) → is_constraint at ≡ false → (slots : List ℕ)
    → ((k : ℕ) → Where slot i at k → is_among slots (Some k) ≡ true) → (u : Use)
    → IsUsed (site_at (layout_of model) i slot at).setting u
    → IsGoodUse (VarIn plan slots) (SetIn plan slots) (layout_of model) (site_at (layout_of model) i slot at) u
good_use model tables plan is i slot there at place slots inside u used =
    let site = site_at (layout_of model) i slot at in
    let meant = meant_at model i slot there at place u.operand used.c used.means in
    let same : is_set_meant site u.operand ≡ is_multiple model used.c
    = ap (λ m. is_multiple model (characteristic_in m)) used.means in
    record {
      good = record {
        value = λ single.
            let found = var_is model site u.operand used.c used.means meant.meant (sym same ∙ single) in
            ap (λ xs. is_among slots (slot_in (slice_get xs (var_meant (layout_of model) site u.operand)))) is.vars
            ∙ ap (λ o. is_among slots (slot_in o)) found.1
            ∙ ap (λ k. is_among slots (Some k)) found.2
            ∙ inside (slot_meant site u.operand) meant.place;
        set = λ multiple.
            let found = set_is model site u.operand used.c used.means meant.meant (sym same ∙ multiple) in
            ap (λ xs. is_among slots (slot_of_set (slice_get xs (set_meant (layout_of model) site u.operand)))) is.sets
            ∙ ap (λ o. is_among slots (slot_of_set o)) found.1
            ∙ ap (λ k. is_among slots (Some k)) found.2
            ∙ inside (slot_meant site u.operand) meant.place;
      };
      single = λ value. same ∙ used.single value;
    }

-- a condition that is asked at a slot, and a term that is meant there
abbrev pub Asks : Plan → List ℕ → trees.Condition → Type 0
Asks plan slots c = ConditionHas (VarIn plan slots) AnySum (SetIn plan slots) c

asks_at : (model : Model) (tables : List VariantTable) (plan : Plan) → IsPlanOf model tables plan
    → (i : ℕ) (slot : Slot)
    → slice_get (slots_of model) i ≡ Some slot → (at : At) → is_constraint at ≡ false → (slots : List ℕ)
    → ((k : ℕ) → Where slot i at k → is_among slots (Some k) ≡ true) → (c : Condition)
    → Each (IsUsed (site_at (layout_of model) i slot at).setting) (uses_in (Precondition c))
    → Asks plan slots (condition_at (layout_of model) (site_at (layout_of model) i slot at) c)
asks_at model tables plan is i slot there at place slots inside c used =
    let site = site_at (layout_of model) i slot at in
    let Good : Use → Type 0
    = IsGoodUse (VarIn plan slots) (SetIn plan slots) (layout_of model) (site_at (layout_of model) i slot at) in
    let good = each_more (IsUsed (site_at (layout_of model) i slot at).setting) Good
    (good_use model tables plan is i slot there at place slots inside) (uses_in (Precondition c)) used in
    let own = (uses_by_condition Good (Precondition c) good).0 in
    condition_has (VarIn plan slots) AnySum (SetIn plan slots) (layout_of model) site tt c own.0 own.1

means_at : (model : Model) (tables : List VariantTable) (plan : Plan) → IsPlanOf model tables plan
    → (i : ℕ) (slot : Slot)
    → slice_get (slots_of model) i ≡ Some slot → (at : At) → is_constraint at ≡ false → (slots : List ℕ)
    → ((k : ℕ) → Where slot i at k → is_among slots (Some k) ≡ true) → (t : Term)
    → fault_of model (place_at (layout_of model) slot at) (Counts t) ≡ None
    → TermHas (VarIn plan slots) AnySum (term_at (layout_of model) (site_at (layout_of model) i slot at) t)
means_at model tables plan is i slot there at place slots inside t h =
    let site = site_at (layout_of model) i slot at in
    let Good : Use → Type 0
    = IsGoodUse (VarIn plan slots) (SetIn plan slots) (layout_of model) (site_at (layout_of model) i slot at) in
    let used = all_used site.setting (Counts t) (is_sound model (place_at (layout_of model) slot at) (Counts t) h) in
    let good = each_more (IsUsed (site_at (layout_of model) i slot at).setting) Good
    (good_use model tables plan is i slot there at place slots inside) (uses_in (Counts t)) used in
    used_term_has (VarIn plan slots) AnySum (SetIn plan slots) (layout_of model) site tt t
    (uses_by_term Good (Counts t) good).0

pub precondition_asks : (model : Model) (tables : List VariantTable) (plan : Plan) → IsPlanOf model tables plan
    → (i : ℕ) (slot : Slot)
    → slice_get (slots_of model) i ≡ Some slot → (at : At) → is_constraint at ≡ false → (slots : List ℕ)
    → ((k : ℕ) → Where slot i at k → is_among slots (Some k) ≡ true) → (c : Condition)
    → fault_of model (place_at (layout_of model) slot at) (Precondition c) ≡ None
    → Asks plan slots (condition_at (layout_of model) (site_at (layout_of model) i slot at) c)
precondition_asks model tables plan is i slot there at place slots inside c h =
    asks_at model tables plan is i slot there at place slots inside c
    (all_used (site_at (layout_of model) i slot at).setting (Precondition c)
    (is_sound model (place_at (layout_of model) slot at) (Precondition c) h))

pub selection_asks : (model : Model) (tables : List VariantTable) (plan : Plan) → IsPlanOf model tables plan
    → (i : ℕ) (slot : Slot)
    → slice_get (slots_of model) i ≡ Some slot → (at : At) → is_constraint at ≡ false → (slots : List ℕ)
    → ((k : ℕ) → Where slot i at k → is_among slots (Some k) ≡ true) → (c : Condition)
    → fault_of model (place_at (layout_of model) slot at) (Selection c) ≡ None
    → Asks plan slots (condition_at (layout_of model) (site_at (layout_of model) i slot at) c)
selection_asks model tables plan is i slot there at place slots inside c h =
    asks_at model tables plan is i slot there at place slots inside c
    (all_used (site_at (layout_of model) i slot at).setting (Selection c)
    (is_sound model (place_at (layout_of model) slot at) (Selection c) h))

-- the dependencies that ask
pub precondition_is : (tree : Dependency) (c : Condition) → precondition_in (Some tree) ≡ Some c → tree ≡ Precondition c
precondition_is (Precondition condition) c e = let same : condition ≡ c = cc in ap Precondition same
precondition_is (Selection condition) c e = absurd (cc)
precondition_is (Procedure statements) c e = absurd (cc)
precondition_is (Constrains constraint) c e = absurd (cc)
precondition_is (Counts term) c e = absurd (cc)

pub selection_is : (tree : Dependency) (c : Condition) → selection_in (Some tree) ≡ Some c → tree ≡ Selection c
selection_is (Selection condition) c e = let same : condition ≡ c = cc in ap Selection same
selection_is (Precondition condition) c e = absurd (cc)
selection_is (Procedure statements) c e = absurd (cc)
selection_is (Constrains constraint) c e = absurd (cc)
selection_is (Counts term) c e = absurd (cc)

-- preconditions and requirements
record IsOwnGuard (plan : Plan) (d : GuardDraft) : Type 0 where
  asks : Asks plan (scope_if (scope plan) (slot_of_named plan d.at)) d.choice.condition

record IsOwnRequirement (plan : Plan) (d : RequirementDraft) : Type 0 where
  asks : Asks plan (scope_if (scope plan) (slot_of_named plan d.at)) d.choice.condition

pub scope_is : (model : Model) (tables : List VariantTable) (plan : Plan) → IsPlanOf model tables plan
    → (i : ℕ) (slot : Slot)
    → slice_get (slots_of model) i ≡ Some slot → scope plan i ≡ with_parent slot.parent (line_scope i)
scope_is model tables plan is i slot there =
    ap (λ ss. with_parent (parent_in (slice_get ss i)) (line_scope i)) is.slots
    ∙ ap (λ o. with_parent (parent_in o) (line_scope i)) there

named_scope : (model : Model) (tables : List VariantTable) (plan : Plan) → IsPlanOf model tables plan
    → (i : ℕ) (slot : Slot)
    → slice_get (slots_of model) i ≡ Some slot → (n : Named) → slot_of_named plan n ≡ Some i
    → scope_if (scope plan) (slot_of_named plan n) ≡ with_parent slot.parent (line_scope i)
named_scope model tables plan is i slot there n e = ap (scope_if (scope plan)) e
    ∙ scope_is model tables plan is i slot there

guards_own : (model : Model) (tables : List VariantTable) (plan : Plan) → IsPlanOf model tables plan
    → (i : ℕ) (slot : Slot)
    → slice_get (slots_of model) i ≡ Some slot → (n : Named) → slot_of_named plan n ≡ Some i
    → (value : Option Piece) (uses : List ℕ)
    → Each (IsTypedAt model (own_place model slot)) uses
    → Each (IsOwnGuard plan)
    (guards_among (layout_of model) (characteristic_site (layout_of model) i slot) n value uses)
guards_own model tables plan is i slot there n named value uses typed =
    each_mapped (IsOwnGuard plan)
    (λ asked. record {
      at = n;
      value = value;
      choice =
          choice_at (layout_of model) (characteristic_site (layout_of model) i slot) asked;
    })
    (preconditions_among model uses)
    (each_more (λ a. fault_of model (own_place model slot (Precondition a.condition)) (Precondition a.condition) ≡ None)
    (λ a. IsOwnGuard plan
    (record {
      at = n;
      value = value;
      choice =
          choice_at (layout_of model) (characteristic_site (layout_of model) i slot) a;
    }))
    (λ a h. record {
      asks = subst (λ slots. Asks plan slots
          (condition_at (layout_of model) (characteristic_site (layout_of model) i slot) a.condition))
          (sym (named_scope model tables plan is i slot there n named))
          (precondition_asks model tables plan is i slot there at.Characteristic refl
          (with_parent slot.parent (line_scope i))
          (λ k w. in_scope i k slot at.Characteristic w) a.condition h);
    }) (preconditions_among model uses)
    (asked_typed precondition_in Precondition precondition_is refl model (own_place model slot) uses typed))

requirements_own : (model : Model) (tables : List VariantTable) (plan : Plan) → IsPlanOf model tables plan
    → (i : ℕ) (slot : Slot)
    → slice_get (slots_of model) i ≡ Some slot → (n : Named) → slot_of_named plan n ≡ Some i → (uses : List ℕ)
    → Each (IsTypedAt model (own_place model slot)) uses
    → Each (IsOwnRequirement plan)
    (map (λ asked. record {
      at = n;
      choice =
          choice_at (layout_of model) (characteristic_site (layout_of model) i slot) asked;
    })
    (selections_among model uses))
requirements_own model tables plan is i slot there n named uses typed =
    each_mapped (IsOwnRequirement plan)
    (λ asked. record {
      at = n;
      choice =
          choice_at (layout_of model) (characteristic_site (layout_of model) i slot) asked;
    })
    (selections_among model uses)
    (each_more (λ a. fault_of model (own_place model slot (Selection a.condition)) (Selection a.condition) ≡ None)
    (λ a. IsOwnRequirement plan
    (record { at = n; choice = choice_at (layout_of model) (characteristic_site (layout_of model) i slot) a }))
    (λ a h. record {
      asks = subst (λ slots. Asks plan slots
          (condition_at (layout_of model) (characteristic_site (layout_of model) i slot) a.condition))
          (sym (named_scope model tables plan is i slot there n named))
          (selection_asks model tables plan is i slot there at.Characteristic refl
          (with_parent slot.parent (line_scope i))
          (λ k w. in_scope i k slot at.Characteristic w) a.condition h);
    }) (selections_among model uses)
    (asked_typed selection_in Selection selection_is refl model (own_place model slot) uses typed))

of_characteristic : (model : Model) (tables : List VariantTable) (plan : Plan) → IsPlanOf model tables plan
    → (i : ℕ) (slot : Slot)
    → slice_get (slots_of model) i ≡ Some slot → (n : Named) → slot_of_named plan n ≡ Some i
    → (o : Option Characteristic)
    → Each (IsTypedAt model (own_place model slot)) (uses_of_characteristic o)
    → Each (IsOwnGuard plan) (guards_of (layout_of model) (characteristic_site (layout_of model) i slot) n o)
    × Each (IsOwnRequirement plan)
    (requirements_of (layout_of model) (characteristic_site (layout_of model) i slot) n o)
of_characteristic model tables plan is i slot there n named None typed = (tt, tt)
of_characteristic model tables plan is i slot there n named (Some x) typed =
    let Typed : ℕ → Type 0 = IsTypedAt model (own_place model slot) in
    let both = each_split Typed x.uses (uses_of_values x.values) typed in
    let site = characteristic_site (layout_of model) i slot in (
      each_joined (IsOwnGuard plan) (guards_among (layout_of model) site n None x.uses)
          (flat_map (λ entry. guards_among (layout_of model) site n (Some entry.piece) entry.uses)
          (entries_of x.values))
          (guards_own model tables plan is i slot there n named None x.uses both.0)
          (each_flat (IsOwnGuard plan) (λ entry. guards_among (layout_of model) site n (Some entry.piece) entry.uses)
          (entries_of x.values)
          (each_more (λ e. Each Typed e.uses)
          (λ e. Each (IsOwnGuard plan) (guards_among (layout_of model) site n (Some e.piece) e.uses))
          (λ e h. guards_own model tables plan is i slot there n named (Some e.piece) e.uses h) (entries_of x.values)
          (entry_uses Typed x.values both.1))),
      requirements_own model tables plan is i slot there n named x.uses both.0,
    )

-- at each slot
at_slots : (model : Model) (tables : List VariantTable) (plan : Plan) → IsPlanOf model tables plan
    → refusals.first_of (type_faults (layout_of model)) ≡ None → (k : ℕ) (slot : Slot)
    → slice_get (slots_of model) k ≡ Some slot
    → Each (λ c. Each (IsOwnGuard plan)
    (guards_of (layout_of model) (characteristic_site (layout_of model) (0 + k) slot)
    (named_at (layout_of model) (0 + k) c) (slice_get model.characteristics c))
    × Each (IsOwnRequirement plan)
    (requirements_of (layout_of model) (characteristic_site (layout_of model) (0 + k) slot)
    (named_at (layout_of model) (0 + k) c) (slice_get model.characteristics c))) (members_of model slot.object)
at_slots model tables plan is sound k slot there =
    each_more
    (λ c. (list_any (λ d. c == d) (members_of model slot.object) ≡ true)
    × Each (IsTypedAt model (own_place model slot))
    (uses_of_characteristic (slice_get model.characteristics c)))
    (λ c. Each (IsOwnGuard plan) (guards_of (layout_of model) (characteristic_site (layout_of model) (0 + k) slot)
    (named_at (layout_of model) (0 + k) c) (slice_get model.characteristics c))
    × Each (IsOwnRequirement plan)
    (requirements_of (layout_of model) (characteristic_site (layout_of model) (0 + k) slot)
    (named_at (layout_of model) (0 + k) c) (slice_get model.characteristics c)))
    (λ c h. of_characteristic model tables plan is (0 + k) slot
    (subst (λ m. slice_get (slots_of model) m ≡ Some slot) (no_front k) there)
    (named_at (layout_of model) (0 + k) c) (named_at_slot model tables plan is k slot there c h.0).slot
    (slice_get model.characteristics c) h.1)
    (members_of model slot.object)
    (each_both (λ c. list_any (λ d. c == d) (members_of model slot.object) ≡ true)
    (λ c. Each (IsTypedAt model (own_place model slot))
    (uses_of_characteristic (slice_get model.characteristics c))) (members_of model slot.object)
    (each_among (λ c d. c == d) (λ c. eq-eqb c c refl) (members_of model slot.object))
    (sound_at model sound k slot there).members)
  where
    no_front : (m : ℕ) → m ≡ 0 + m
    no_front m = omega arith

all_guards : (model : Model) (tables : List VariantTable) (plan : Plan) → IsPlanOf model tables plan
    → refusals.first_of (type_faults (layout_of model)) ≡ None → Each (IsOwnGuard plan) (guard_drafts (layout_of model))
all_guards model tables plan is sound =
    each_by_slot (IsOwnGuard plan) (guards_at (layout_of model)) 0 (slots_of model) (λ k slot e.
    let made : ℕ → List GuardDraft
    = λ c. guards_of (layout_of model) (characteristic_site (layout_of model) (0 + k) slot)
    (named_at (layout_of model) (0 + k) c) (slice_get model.characteristics c) in
    let others : ℕ → List RequirementDraft
    = λ c. requirements_of (layout_of model) (characteristic_site (layout_of model) (0 + k) slot)
    (named_at (layout_of model) (0 + k) c) (slice_get model.characteristics c) in
    each_flat (IsOwnGuard plan) made (members_of model slot.object)
    (each_more (λ c. Each (IsOwnGuard plan) (made c) × Each (IsOwnRequirement plan) (others c))
    (λ c. Each (IsOwnGuard plan) (made c))
    (λ c h. h.0) (members_of model slot.object) (at_slots model tables plan is sound k slot e)))

all_requirements : (model : Model) (tables : List VariantTable) (plan : Plan) → IsPlanOf model tables plan
    → refusals.first_of (type_faults (layout_of model)) ≡ None
    → Each (IsOwnRequirement plan) (requirement_drafts (layout_of model))
all_requirements model tables plan is sound =
    each_by_slot (IsOwnRequirement plan) (requirements_at (layout_of model)) 0 (slots_of model) (λ k slot e.
    let made : ℕ → List GuardDraft
    = λ c. guards_of (layout_of model) (characteristic_site (layout_of model) (0 + k) slot)
    (named_at (layout_of model) (0 + k) c) (slice_get model.characteristics c) in
    let others : ℕ → List RequirementDraft
    = λ c. requirements_of (layout_of model) (characteristic_site (layout_of model) (0 + k) slot)
    (named_at (layout_of model) (0 + k) c) (slice_get model.characteristics c) in
    each_flat (IsOwnRequirement plan) others (members_of model slot.object)
    (each_more (λ c. Each (IsOwnGuard plan) (made c) × Each (IsOwnRequirement plan) (others c))
    (λ c. Each (IsOwnRequirement plan) (others c))
    (λ c h. h.1) (members_of model slot.object) (at_slots model tables plan is sound k slot e)))

-- lines and operations
record IsOwnItem (plan : Plan) (slots : List ℕ) (d : ItemDraft) : Type 0 where
  term : TermHas (VarIn plan slots) AnySum d.term
  choices : Each (λ choice. Asks plan slots choice.condition) d.choices

abbrev LineOwn : Plan → ItemDraft → Type 0
LineOwn plan d = IsOwnItem plan (line_scope d.slot) d

abbrev OperationOwn : Plan → ItemDraft → Type 0
OperationOwn plan d = IsOwnItem plan (scope plan d.slot) d

line_is_own : (model : Model) (tables : List VariantTable) (plan : Plan) → IsPlanOf model tables plan
    → (i : ℕ) (slot : Slot)
    → slice_get (slots_of model) i ≡ Some slot → (item : BillItem) → IsSoundLine model slot item
    → LineOwn plan (line_at (layout_of model) i slot item)
line_is_own model tables plan is i slot there item sound = record {
  term = means_at model tables plan is i slot there (at.Line (is_configurable item.component)) refl (line_scope i)
      (λ k w. in_line_scope i k slot (at.Line (is_configurable item.component)) refl w) (term_of item.quantity.value)
      sound.quantity;
  choices = by item.component (is_configurable item.component) sound.uses;
}
  where
    by : (x : Component) (b : Bool) → Each (IsTypedAt model (λ tree. line_place model slot b)) item.uses
        → Each (λ choice. Asks plan (line_scope i) choice.condition)
        (line_choices (layout_of model) (site_at (layout_of model) i slot (at.Line b)) x item.uses)
    by (components.Object o) b typed = tt
    by (components.Plain material) b typed =
        each_mapped (λ choice. Asks plan (line_scope i) choice.condition)
        (choice_at (layout_of model) (site_at (layout_of model) i slot (at.Line b))) (selections_among model item.uses)
        (each_more (λ a. fault_of model (line_place model slot b) (Selection a.condition) ≡ None)
        (λ a. Asks plan (line_scope i)
        (condition_at (layout_of model) (site_at (layout_of model) i slot (at.Line b)) a.condition))
        (λ a h. selection_asks model tables plan is i slot there (at.Line b) refl (line_scope i)
        (λ k w. in_line_scope i k slot (at.Line b) refl w) a.condition h) (selections_among model item.uses)
        (asked_typed selection_in Selection selection_is refl model (λ tree. line_place model slot b) item.uses typed))

operation_is_own : (model : Model) (tables : List VariantTable) (plan : Plan) → IsPlanOf model tables plan
    → (i : ℕ) (slot : Slot)
    → slice_get (slots_of model) i ≡ Some slot → (operation : parts.Operation) → IsSoundOperation model slot operation
    → OperationOwn plan (operation_at (layout_of model) i slot operation)
operation_is_own model tables plan is i slot there operation sound = record {
  term = subst (λ slots. TermHas (VarIn plan slots) AnySum
      (term_at (layout_of model) (operation_site (layout_of model) i slot) (term_of operation.time.value)))
      (sym (scope_is model tables plan is i slot there))
      (means_at model tables plan is i slot there at.Operation refl (with_parent slot.parent (line_scope i))
      (λ k w. in_scope i k slot at.Operation w) (term_of operation.time.value) sound.time);
  choices = subst (λ slots. Each (λ choice. Asks plan slots choice.condition)
      (map (choice_at (layout_of model) (operation_site (layout_of model) i slot))
      (selections_among model operation.uses)))
      (sym (scope_is model tables plan is i slot there))
      (each_mapped (λ choice. Asks plan (with_parent slot.parent (line_scope i)) choice.condition)
      (choice_at (layout_of model) (operation_site (layout_of model) i slot)) (selections_among model operation.uses)
      (each_more (λ a. fault_of model (operation_place model slot) (Selection a.condition) ≡ None)
      (λ a. Asks plan (with_parent slot.parent (line_scope i))
      (condition_at (layout_of model) (operation_site (layout_of model) i slot) a.condition))
      (λ a h. selection_asks model tables plan is i slot there at.Operation refl
      (with_parent slot.parent (line_scope i))
      (λ k w. in_scope i k slot at.Operation w) a.condition h) (selections_among model operation.uses)
      (asked_typed selection_in Selection selection_is refl model (λ tree. operation_place model slot) operation.uses
      sound.uses)));
}

all_lines : (model : Model) (tables : List VariantTable) (plan : Plan) → IsPlanOf model tables plan
    → refusals.first_of (type_faults (layout_of model)) ≡ None → Each (LineOwn plan) (line_drafts (layout_of model))
all_lines model tables plan is sound =
    each_by_slot (LineOwn plan) (λ i slot. map (line_at (layout_of model) i slot) (bill_of model slot.object)) 0
    (slots_of model)
    (λ k slot e. each_mapped (LineOwn plan) (line_at (layout_of model) (0 + k) slot) (bill_of model slot.object)
    (each_more (IsSoundLine model slot) (λ item. LineOwn plan (line_at (layout_of model) (0 + k) slot item))
    (λ item h. line_is_own model tables plan is (0 + k) slot
    (subst (λ m. slice_get (slots_of model) m ≡ Some slot) (no_front k) e) item h)
    (bill_of model slot.object) (sound_at model sound k slot e).lines))
  where
    no_front : (m : ℕ) → m ≡ 0 + m
    no_front m = omega arith

all_operations : (model : Model) (tables : List VariantTable) (plan : Plan) → IsPlanOf model tables plan
    → refusals.first_of (type_faults (layout_of model)) ≡ None
    → Each (OperationOwn plan) (operation_drafts (layout_of model))
all_operations model tables plan is sound =
    each_by_slot (OperationOwn plan)
    (λ i slot. map (operation_at (layout_of model) i slot) (operations_in (slice_get model.objects slot.object))) 0
    (slots_of model)
    (λ k slot e. each_mapped (OperationOwn plan) (operation_at (layout_of model) (0 + k) slot)
    (operations_in (slice_get model.objects slot.object))
    (each_more (IsSoundOperation model slot) (λ x. OperationOwn plan (operation_at (layout_of model) (0 + k) slot x))
    (λ x h. operation_is_own model tables plan is (0 + k) slot
    (subst (λ m. slice_get (slots_of model) m ≡ Some slot) (no_front k) e) x h)
    (operations_in (slice_get model.objects slot.object)) (sound_at model sound k slot e).operations))
  where
    no_front : (m : ℕ) → m ≡ 0 + m
    no_front m = omega arith

selections_own : (model : Model) (tables : List VariantTable) (plan : Plan) → IsPlanOf model tables plan
    → (slots : List ℕ) (c : ℕ)
    (choices : List Choice) → Each (λ choice. Asks plan slots choice.condition) choices
    → StandFrom (conditions_of (drafts_of (layout_of model))) c (map (λ choice. choice.condition) choices)
    → list_all (selection_within plan slots) (selections_from c choices) ≡ true
selections_own model tables plan is slots c [] h cs = refl
selections_own model tables plan is slots c (choice ∷ choices) h cs =
    let all = conditions_of (drafts_of (layout_of model)) in
    let rest = map (λ choice. choice.condition) choices in
    and_from (asks_within plan slots (slice_get plan.conditions c))
    (list_all (selection_within plan slots) (selections_from (suc c) choices))
    (asked_within model tables plan is slots AnySum c choice.condition (stand_first all c choice.condition rest cs) h.0)
    (selections_own model tables plan is slots (suc c) choices h.1 (stand_rest all c choice.condition rest cs))

pub record HasOwnReads (plan : Plan) : Type 0 where
  pub guard_reads : list_all (guard_own plan) plan.guards ≡ true
  pub requirement_reads : list_all (requirement_own plan) plan.requirements ≡ true
  pub operation_reads : list_all (operation_own plan) plan.operations ≡ true
  pub line_reads : list_all (line_own plan) plan.lines ≡ true

pub own_reads : (model : Model) (tables : List VariantTable) (plan : Plan) → IsPlanOf model tables plan
    → refusals.first_of (type_faults (layout_of model)) ≡ None → HasOwnReads plan
own_reads model tables plan is sound =
    let drafts = drafts_of (layout_of model) in
    record {
      guard_reads = each_passes (λ x. guard_own plan x ≡ true) (guard_own plan) (λ x h. h) plan.guards
          (subst (Each (λ x. guard_own plan x ≡ true)) (sym is.guards)
          (numbered_each guard_brings guard_from (IsOwnGuard plan) (λ x. guard_own plan x ≡ true) (conditions_of drafts)
          (terms_of drafts)
          (λ c t d own cs ts. asked_within model tables plan is (scope_if (scope plan) (slot_of_named plan d.at)) AnySum
          c d.choice.condition
          (stand_first (conditions_of drafts) c d.choice.condition [] cs) own.asks)
          (guards_begin drafts) 0 drafts.guards (all_guards model tables plan is sound) (guard_conditions drafts)
          (no_terms (terms_of drafts) drafts.guards)));
      requirement_reads = each_passes (λ x. requirement_own plan x ≡ true) (requirement_own plan) (λ x h. h)
          plan.requirements
          (subst (Each (λ x. requirement_own plan x ≡ true)) (sym is.requirements)
          (numbered_each requirement_brings requirement_from (IsOwnRequirement plan)
          (λ x. requirement_own plan x ≡ true)
          (conditions_of drafts) (terms_of drafts)
          (λ c t d own cs ts. asked_within model tables plan is (scope_if (scope plan) (slot_of_named plan d.at)) AnySum
          c d.choice.condition
          (stand_first (conditions_of drafts) c d.choice.condition [] cs) own.asks)
          (requirements_begin drafts) 0 drafts.requirements (all_requirements model tables plan is sound)
          (requirement_conditions drafts)
          (no_terms (terms_of drafts) drafts.requirements)));
      operation_reads = each_passes (λ x. operation_own plan x ≡ true) (operation_own plan) (λ x h. h) plan.operations
          (subst (Each (λ x. operation_own plan x ≡ true)) (sym is.operations)
          (numbered_each item_brings operation_from (OperationOwn plan) (λ x. operation_own plan x ≡ true)
          (conditions_of drafts) (terms_of drafts)
          (λ c t d own cs ts. and_from (means_within plan (scope plan d.slot) (slice_get plan.terms t))
          (list_all (selection_within plan (scope plan d.slot)) (selections_from c d.choices))
          (meant_within model tables plan is (scope plan d.slot) AnySum t d.term
          (stand_first (terms_of drafts) t d.term [] ts) own.term)
          (selections_own model tables plan is (scope plan d.slot) c d.choices own.choices cs))
          (operations_begin drafts) (operation_terms_begin drafts) drafts.operations
          (all_operations model tables plan is sound)
          (operation_conditions drafts) (operation_terms drafts)));
      line_reads = each_passes (λ x. line_own plan x ≡ true) (line_own plan) (λ x h. h) plan.lines
          (subst (Each (λ x. line_own plan x ≡ true)) (sym is.lines)
          (numbered_each item_brings line_from (LineOwn plan) (λ x. line_own plan x ≡ true) (conditions_of drafts)
          (terms_of drafts)
          (λ c t d own cs ts. and_from (means_within plan (line_scope d.slot) (slice_get plan.terms t))
          (list_all (selection_within plan (line_scope d.slot)) (selections_from c d.choices))
          (meant_within model tables plan is (line_scope d.slot) AnySum t d.term
          (stand_first (terms_of drafts) t d.term [] ts) own.term)
          (selections_own model tables plan is (line_scope d.slot) c d.choices own.choices cs))
          (lines_begin drafts) (line_terms_begin drafts) drafts.lines (all_lines model tables plan is sound)
          (line_conditions drafts) (line_terms drafts)));
    }
