-- Texts meet texts and numbers numbers: in all conditions, rules and statements of a plan.
use Rattle.std.proofs.Common.{◌≡◌, ℕ, suc, true, false, not, List, [], ◌∷◌, ◌++◌, map, flat_map, Option, Some, None}
use Rattle.std.proofs.Common.{refl, sym, ap, ◌∙◌}
use Rattle.std.specs.Prelude.{is_none, slice_get}
use Rattle.std.specs.List.{list_all, list_any}
use Rattle.std.proofs.lemmas.Bool.{and_from, and_parts, or_parts}
use Rattle.vc_model_parts.specs.declared.parts.Model.{Model}
use Rattle.vc_model_parts.specs.declared.parts.Table.{Table}
use Rattle.vc_plan.specs.Typing as typing
use Rattle.vc_plan.specs.Typing.{action_typed, column_list, condition_typed, filled_typed, key_typed, kind_typed}
use Rattle.vc_plan.specs.Typing.{meet_if, meets_list_if, statement_typed}
use Rattle.vc_plan.specs.declared.conditions.Relation.{Relation}
use Rattle.vc_plan.specs.declared.conditions.Relation.TheVariants as relations
use Rattle.vc_plan.specs.declared.plans.Plan.{Plan}
use Rattle.vc_plan.specs.declared.plans.Slot.{Slot}
use Rattle.vc_plan.specs.declared.terms.Term.TheVariants as terms
use Rattle.vc_syntax_tree.specs.Trees as syntax
use Rattle.vc_table.specs.declared.table.VariantTable.{VariantTable}
use Rattle.vc_types.specs.Looking.{table_named}
use Rattle.vc_types.specs.NameFaults.{is_unknown_call, is_unknown_column}
use Rattle.vc_types.specs.Occurrences.{Use, as_value, call_of_action, call_of_demand, calls_in, conditions_in}
use Rattle.vc_types.specs.Occurrences.{demanded_relations, own_terms, relation_of_demand, relations_in, relations_of}
use Rattle.vc_types.specs.Occurrences.{sides_of, target_of, term_of_action, terms_in, uses_in, uses_of_relation}
use Rattle.vc_types.specs.Occurrences.{uses_of_term, values_in}
use Rattle.vc_types.specs.PlaceFaults.{bound_column, denies_specified, gives_other, is_computed, is_other, lacks_key}
use Rattle.vc_types.specs.PlaceFaults.{looks_up_wrongly, uses_set}
use Rattle.vc_types.specs.Settings.{is_multiple, is_set}
use Rattle.vc_types.specs.SortFaults.{acts_wrongly, binds_wrongly, calls_wrongly, computes_with_text}
use Rattle.vc_types.specs.declared.place.At.TheVariants as at
use Rattle.vc_compile_plan.specs.Layouts.{layout_of}
use Rattle.vc_compile_plan.specs.Numbering.{action_from, action_terms, demand_terms, drafts_of, keys_from, kind_from}
use Rattle.vc_compile_plan.specs.Numbering.{terms_of}
use Rattle.vc_compile_plan.specs.PlanOf.{IsPlanOf}
use Rattle.vc_compile_plan.specs.Places.{procedure_site, site_at}
use Rattle.vc_compile_plan.specs.Procedures.{Action, KeyDraft, action_at, assign, delete_default, look_up, set_default}
use Rattle.vc_compile_plan.specs.Rules.{Demand, among, by_table, compare, constraint_site, demand_at, equate, last}
use Rattle.vc_compile_plan.specs.Rules.{line, never}
use Rattle.vc_compile_plan.specs.Sites.{Site, characteristic_in, is_set_meant}
use Rattle.vc_compile_plan.specs.Trees as trees
use Rattle.vc_compile_valid.specs.Domains.{HasLists}
use Rattle.vc_compile_valid.proofs.EachLaws.{Each, each_both, each_more}
use Rattle.vc_compile_valid.proofs.EntryLaws.{each_unmapped}
use Rattle.vc_compile_valid.proofs.ListLaws.{made_from}
use Rattle.vc_compile_valid.proofs.NumberingLaws.{StandFrom}
use Rattle.vc_compile_valid.proofs.PlacedLaws.{stand_first, stand_rest}
use Rattle.vc_compile_meant.specs.Scopes.{IsTyped}
use Rattle.vc_compile_meant.proofs.FaultLaws.{IsSound, IsUsed, all_used, each_false, each_split, each_unflat}
use Rattle.vc_compile_meant.proofs.FaultLaws.{names_known}
use Rattle.vc_compile_meant.proofs.ProcedureLaws.{wrong_parts}
use Rattle.vc_compile_meant.proofs.SortLaws.{IsRead, right_kinds}
use Rattle.vc_compile_meant.proofs.TreeLaws.{uses_by_name, uses_by_term}
use Rattle.vc_compile_origins.proofs.Origins.{HoldsOfActions, HoldsOfConditions, HoldsOfDemands, StandsAt, StandsIn}
use Rattle.vc_compile_origins.proofs.OriginLaws.{conditions_pass, rules_pass, statements_pass}
use Rattle.vc_compile_origins.proofs.RelationLaws.{uses_by_relation}
use Rattle.vc_compile_origins.proofs.SiteLaws.{slot_sound, tuple_sound}
use Rattle.vc_compile_sorts.specs.Sorts.{HasTypes}
use Rattle.vc_compile_sorts.proofs.ActionSorts.{IsSortedAction, IsSortedTerm, action_meets, action_sorted, key_meets}
use Rattle.vc_compile_sorts.proofs.ColumnSorts.{meets_same}
use Rattle.vc_compile_sorts.proofs.ConditionSorts.{IsSorted, all_read, conditions_sorted, relations_sorted, typed_same}
use Rattle.vc_compile_sorts.proofs.ConditionSorts.{typed_tree}
use Rattle.vc_compile_sorts.proofs.DemandSorts.{HasSortedParts, IsSortedBinding, IsSortedDemand, demand_sorted}
use Rattle.vc_compile_sorts.proofs.DemandSorts.{demand_typed}
use Rattle.vc_compile_sorts.proofs.SiteLaws.{slot_site, tuple_site}
use Rattle.vc_compile_sorts.proofs.TermSorts.{IsReadUse, IsSiteOf, meet_same, meet_trees, term_reads}

-- the terms of a tree without a fault, and what its calls bind
terms_sorted : (model : Model) (tables : List VariantTable) (plan : Plan) → IsPlanOf model tables plan → (site : Site)
    → IsSiteOf model site
    → (tree : syntax.Dependency) → IsSound site.setting tree
    → Each (IsSortedTerm model plan site) (own_terms tree ++ flat_map values_in (calls_in tree))
terms_sorted model tables plan is site of tree sound =
    let own = own_terms tree ++ flat_map values_in (calls_in tree) in
    let kinds = right_kinds site.setting tree sound in
    let Computes : syntax.Term → Type 0 = λ t. computes_with_text site.setting t ≡ false in
    let Reads : syntax.Term → Type 0 = λ t. Each (IsReadUse model plan site) (uses_of_term t) in
    each_more (λ t. Computes t × Reads t) (IsSortedTerm model plan site)
    (λ t h. record { computes = h.0; reads = term_reads model plan site t h.1 }) own
    (each_both Computes Reads own
    (each_split Computes (flat_map sides_of (relations_in tree)) own
    (each_false (computes_with_text site.setting) (terms_in tree) kinds.terms)).1
    (uses_by_term (IsReadUse model plan site) tree (all_read model tables plan is site of tree sound)))

bindings_sorted : (model : Model) (tables : List VariantTable) (plan : Plan) → IsPlanOf model tables plan
    → (site : Site)
    → IsSiteOf model site
    → (tree : syntax.Dependency) → IsSound site.setting tree
    → Each (λ call. Each (IsSortedBinding model plan site call) call.bindings) (calls_in tree)
bindings_sorted model tables plan is site of tree sound =
    let setting = site.setting in
    let calls = calls_in tree in
    let kinds = right_kinds setting tree sound in
    let Known : syntax.TableCall → Type 0 = λ call. is_unknown_call setting call ≡ false in
    let Right : syntax.TableCall → Type 0 = λ call. calls_wrongly setting call ≡ false in
    let Sorted : syntax.TableCall → Type 0 = λ call. Each (IsSortedTerm model plan site) (values_in call) in
    let values = each_unflat (IsSortedTerm model plan site) values_in calls
    (each_split (IsSortedTerm model plan site) (own_terms tree) (flat_map values_in calls)
    (terms_sorted model tables plan is site of tree sound)).1 in
    each_more (λ call. (Known call × Right call) × Sorted call)
    (λ call. Each (IsSortedBinding model plan site call) call.bindings)
    (λ call h. let front = h.0 in one call front.0 front.1 h.1) calls
    (each_both (λ call. Known call × Right call) Sorted calls
    (each_both Known Right calls (each_false (is_unknown_call setting) calls (names_known setting tree sound).1)
    (each_false (calls_wrongly setting) calls kinds.calls)) values)
  where
    one : (call : syntax.TableCall) → is_unknown_call site.setting call ≡ false
        → calls_wrongly site.setting call ≡ false
        → Each (IsSortedTerm model plan site) (values_in call)
        → Each (IsSortedBinding model plan site call) call.bindings
    one call known right values =
        let setting = site.setting in
        let parts = or_parts (is_none (table_named setting.model call.table.name))
        (list_any (is_unknown_column setting call) call.bindings) known in
        let Known : syntax.Binding → Type 0 = λ b. is_unknown_column setting call b ≡ false in
        let Right : syntax.Binding → Type 0 = λ b. binds_wrongly setting call b ≡ false in
        let Sorted : syntax.Binding → Type 0 = λ b. IsSortedTerm model plan site b.value in
        each_more (λ b. (Known b × Right b) × Sorted b) (IsSortedBinding model plan site call)
        (λ b h.
        let front = h.0 in
        let term = h.1 in
        record { known = front.0; binds = front.1; computes = term.computes; reads = term.reads }) call.bindings
        (each_both (λ b. Known b × Right b) Sorted call.bindings
        (each_both Known Right call.bindings (each_false (is_unknown_column setting call) call.bindings parts.1)
        (each_false (binds_wrongly setting call) call.bindings right))
        (each_unmapped (IsSortedTerm model plan site) (λ b. b.value) call.bindings values))

-- conditions
typed_conditions : (model : Model) (tables : List VariantTable) (plan : Plan) → IsPlanOf model tables plan
    → HasLists plan
    → HoldsOfConditions (λ c. typed_tree plan c ≡ true) model
typed_conditions model tables plan is lists = record {
  always = refl;
  parts = λ c d h. and_parts (typed_tree plan c) (typed_tree plan d) h;
  whole = λ c d h k. and_from (typed_tree plan c) (typed_tree plan d) h k;
  at_slot = λ i slot place tree stands.
      conditions_sorted model tables plan is lists (site_at (layout_of model) i slot place)
      (slot_site model i slot place tree stands) tree
      (slot_sound model i slot place tree stands);
  at_tuple = λ constraint tuple stands.
      conditions_sorted model tables plan is lists (constraint_site (layout_of model) constraint tuple)
      (tuple_site model constraint tuple stands)
      (syntax.Constrains constraint) (tuple_sound model constraint tuple stands);
}

-- no set stands in a constraint
no_set : (site : Site) (u : Use) → IsUsed site.setting u → uses_set site.setting u ≡ false
    → is_set_meant site u.operand ≡ false
no_set site u used none =
    ap (λ m. is_multiple site.setting.model (characteristic_in m)) used.means
    ∙ sym (ap (is_set site.setting.model) used.means) ∙ none

-- restrictions
restrictions_sorted : (model : Model) (tables : List VariantTable) (plan : Plan) → IsPlanOf model tables plan
    → (constraint : syntax.Constraint)
    (tuple : List ℕ) → StandsIn model constraint tuple
    → Each (λ r. HasSortedParts model plan (constraint_site (layout_of model) constraint tuple) r.demand)
    constraint.restrictions
restrictions_sorted model tables plan is constraint tuple stands =
    let site = constraint_site (layout_of model) constraint tuple in
    let setting = (constraint_site (layout_of model) constraint tuple).setting in
    let tree = syntax.Constrains constraint in
    let rs = constraint.restrictions in
    let of = tuple_site model constraint tuple stands in
    let sound = tuple_sound model constraint tuple stands in
    let calls = flat_map (λ r. call_of_demand r.demand) rs in
    let Single : Use → Type 0 = λ u. is_set_meant (constraint_site
    (layout_of model) constraint tuple) u.operand ≡ false in
    let Sorted : syntax.Relation → Type 0 = IsSorted model plan (constraint_site (layout_of model) constraint tuple) in
    let Singles : syntax.Relation → Type 0 = λ r. Each Single (uses_of_relation r) in
    let sets = or_parts (list_any denies_specified (conditions_in tree))
    (list_any (uses_set setting) (uses_in tree)) sound.monotone in
    let single = each_more (λ u. IsUsed setting u × (uses_set setting u ≡ false)) Single (λ u h. no_set site u h.0 h.1)
    (uses_in tree)
    (each_both (IsUsed setting) (λ u. uses_set setting u ≡ false) (uses_in tree) (all_used setting tree sound)
    (each_false (uses_set setting) (uses_in tree) sets.1)) in
    let all = each_more (λ r. Sorted r × Singles r)
    (IsSortedDemand model plan (constraint_site (layout_of model) constraint tuple))
    (λ r h. record { sorted = h.0; single = h.1 }) (relations_in tree)
    (each_both Sorted Singles (relations_in tree) (relations_sorted model tables plan is site of tree sound)
    (uses_by_relation Single tree single)) in
    let relations = each_unflat (IsSortedDemand model plan (constraint_site (layout_of model) constraint tuple))
    (λ r. relation_of_demand r.demand) rs
    (each_split (IsSortedDemand model plan (constraint_site (layout_of model) constraint tuple))
    (flat_map relations_of (conditions_in tree))
    (demanded_relations tree) all).1 in
    let Bound : syntax.TableCall → Type 0 = λ call.
    Each (IsSortedBinding model plan (constraint_site (layout_of model) constraint tuple) call) call.bindings in
    let Plain : syntax.TableCall → Type 0 = λ call. Each (λ b. is_computed b ≡ false) call.bindings in
    let bindings = each_unflat Bound (λ r. call_of_demand r.demand) rs
    (bindings_sorted model tables plan is site of tree sound) in
    let plain = each_unflat Plain (λ r. call_of_demand r.demand) rs
    (each_more (λ call. list_any is_computed call.bindings ≡ false) Plain
    (λ call h. each_false is_computed call.bindings h) calls
    (each_false (λ call. list_any is_computed call.bindings) calls sound.terms)) in
    let Relations : syntax.Restriction → Type 0 = λ r.
    Each (IsSortedDemand model plan (constraint_site (layout_of model) constraint tuple))
    (relation_of_demand r.demand) in
    let Bounds : syntax.Restriction → Type 0 = λ r. Each Bound (call_of_demand r.demand) in
    let Plains : syntax.Restriction → Type 0 = λ r. Each Plain (call_of_demand r.demand) in
    each_more (λ r. (Relations r × Bounds r) × Plains r)
    (λ r. HasSortedParts model plan (constraint_site (layout_of model) constraint tuple) r.demand)
    (λ r h. let front = h.0 in record { relations = front.0; bindings = front.1; plain = h.1 }) rs
    (each_both (λ r. Relations r × Bounds r) Plains rs (each_both Relations Bounds rs relations bindings) plain)

typed_demands : (model : Model) (tables : List VariantTable) (plan : Plan) → IsPlanOf model tables plan → HasLists plan
    → HoldsOfDemands (λ d. demand_typed plan d ≡ true) model
typed_demands model tables plan is lists = record {
  at_tuple = λ constraint tuple stands.
      each_more (λ r. HasSortedParts model plan (constraint_site (layout_of model) constraint tuple) r.demand)
      (λ r. demand_typed plan (demand_at (layout_of model)
      (constraint_site (layout_of model) constraint tuple) r.demand) ≡ true)
      (λ r h. demand_sorted model tables plan is lists
      (constraint_site (layout_of model) constraint tuple) refl r.demand h) constraint.restrictions
      (restrictions_sorted model tables plan is constraint tuple stands);
  of_var = λ v there. refl;
  of_slot = λ i there. refl;
}

-- statements
statements_sorted : (model : Model) (tables : List VariantTable) (plan : Plan) → IsPlanOf model tables plan
    → (i : ℕ) (slot : Slot)
    (ss : List syntax.Statement) → StandsAt model i slot at.Procedure (syntax.Procedure ss)
    → Each (λ s. IsSortedAction model plan (procedure_site (layout_of model) i slot) s.action) ss
statements_sorted model tables plan is i slot ss stands =
    let site = procedure_site (layout_of model) i slot in
    let setting = (procedure_site (layout_of model) i slot).setting in
    let tree = syntax.Procedure ss in
    let of = slot_site model i slot at.Procedure tree stands in
    let sound = slot_sound model i slot at.Procedure tree stands in
    let kinds = right_kinds setting tree sound in
    let calls = flat_map (λ s. call_of_action s.action) ss in
    let Sorted : syntax.Term → Type 0 = IsSortedTerm model plan (procedure_site (layout_of model) i slot) in
    let Bound : syntax.TableCall → Type 0 = λ call.
    Each (IsSortedBinding model plan (procedure_site (layout_of model) i slot) call) call.bindings in
    let Other : syntax.TableCall → Type 0 = λ call.
    Each (λ b. gives_other (procedure_site (layout_of model) i slot).setting call b ≡ false) call.bindings in
    let right = each_false (λ s. acts_wrongly setting s.action) ss kinds.acts in
    let terms = each_unflat Sorted (λ s. term_of_action s.action) ss
    (each_split Sorted (flat_map (λ s. term_of_action s.action) ss) (flat_map values_in calls)
    (terms_sorted model tables plan is site of tree sound)).0 in
    let names = each_unflat (IsRead model plan (procedure_site (layout_of model) i slot)) (λ s. target_of s.action) ss
    (each_more (λ o. IsReadUse model plan (procedure_site (layout_of model) i slot) (as_value o))
    (IsRead model plan (procedure_site (layout_of model) i slot)) (λ o h. h.value (h.single refl))
    (flat_map (λ s. target_of s.action) ss)
    (uses_by_name (IsReadUse model plan (procedure_site (layout_of model) i slot)) tree
    (all_read model tables plan is site of tree sound))) in
    let bindings = each_unflat Bound (λ s. call_of_action s.action) ss
    (bindings_sorted model tables plan is site of tree sound) in
    let Known : syntax.TableCall → Type 0 = λ call. is_unknown_call setting call ≡ false in
    let Keyed : syntax.TableCall → Type 0 = λ call. looks_up_wrongly setting call
    (table_named setting.model call.table.name) ≡ false in
    let others = each_unflat Other (λ s. call_of_action s.action) ss
    (each_more (λ call. Known call × Keyed call) Other (λ call h. given call h.0 h.1) calls
    (each_both Known Keyed calls (each_false (is_unknown_call setting) calls (names_known setting tree sound).1)
    (each_false (λ call. looks_up_wrongly setting call (table_named setting.model call.table.name)) calls
    sound.keys))) in
    all ss right terms names bindings others
  where
    table_right : (call : syntax.TableCall) (o : Option Table) → is_none o ≡ false
        → looks_up_wrongly (procedure_site (layout_of model) i slot).setting call o ≡ false
        → list_any (gives_other (procedure_site (layout_of model) i slot).setting call) call.bindings ≡ false
    table_right call None there h = absurd (cc)
    table_right call (Some table) there h =
        wrong_parts (not (list_any (λ column. column.key) table.columns))
        (list_any (lacks_key (procedure_site (layout_of model) i slot).setting call) table.columns)
        (not (list_any (λ binding. is_other (bound_column
        (procedure_site (layout_of model) i slot).setting call binding)) call.bindings))
        (list_any (gives_other (procedure_site (layout_of model) i slot).setting call) call.bindings) h

    given : (call : syntax.TableCall) → is_unknown_call (procedure_site (layout_of model) i slot).setting call ≡ false
        → looks_up_wrongly (procedure_site (layout_of model) i slot).setting call (table_named model call.table.name)
        ≡ false
        → Each (λ b. gives_other (procedure_site (layout_of model) i slot).setting call b ≡ false) call.bindings
    given call known keyed =
        let setting = (procedure_site (layout_of model) i slot).setting in
        let parts = or_parts (is_none (table_named model call.table.name))
        (list_any (is_unknown_column setting call) call.bindings) known in
        each_false (gives_other setting call) call.bindings
        (table_right call (table_named model call.table.name) parts.0 keyed)

    all : (xs : List syntax.Statement)
        → Each (λ s. acts_wrongly (procedure_site (layout_of model) i slot).setting s.action ≡ false) xs
        → Each (λ s. Each (IsSortedTerm model plan (procedure_site (layout_of model) i slot)) (term_of_action s.action))
        xs
        → Each (λ s. Each (IsRead model plan (procedure_site (layout_of model) i slot)) (target_of s.action)) xs
        → Each (λ s. Each (λ call. Each (IsSortedBinding model plan (procedure_site (layout_of model) i slot) call)
        call.bindings)
        (call_of_action s.action)) xs
        → Each (λ s. Each (λ call. Each
        (λ b. gives_other (procedure_site (layout_of model) i slot).setting call b ≡ false) call.bindings)
        (call_of_action s.action)) xs
        → Each (λ s. IsSortedAction model plan (procedure_site (layout_of model) i slot) s.action) xs
    all [] a b c d e = tt
    all (s ∷ xs) a b c d e = (
      record { right = a.0; terms = b.0; names = c.0; bindings = d.0; others = e.0 },
      all xs a.1 b.1 c.1 d.1 e.1,
    )

typed_actions : (model : Model) (tables : List VariantTable) (plan : Plan) → IsPlanOf model tables plan → HasLists plan
    → HoldsOfActions (λ a. action_meets plan a ≡ true) model
typed_actions model tables plan is lists = record {
  at_slot = λ i slot ss stands.
      each_more (λ s. IsSortedAction model plan (procedure_site (layout_of model) i slot) s.action)
      (λ s. action_meets plan (action_at (layout_of model) (procedure_site (layout_of model) i slot) s.action) ≡ true)
      (λ s h. action_sorted model tables plan is lists (procedure_site (layout_of model) i slot) refl s.action h) ss
      (statements_sorted model tables plan is i slot ss stands);
}

-- by the numbers of their terms
both_meet : (model : Model) (tables : List VariantTable) (plan : Plan) → IsPlanOf model tables plan
    → (r : Relation) (t : ℕ)
    (left right : trees.Term) → StandFrom (terms_of (drafts_of (layout_of model))) t
    (left ∷ right ∷ []) → meet_trees plan r left right ≡ true
    → meet_if plan r (slice_get plan.terms t) (slice_get plan.terms (suc t)) ≡ true
both_meet model tables plan is r t left right ts h =
    let all = terms_of (drafts_of (layout_of model)) in
    let a = made_from trees.term_of plan.terms all is.terms t left (stand_first all t left (right ∷ []) ts) in
    let b = made_from trees.term_of plan.terms all is.terms (suc t) right
    (stand_first all (suc t) right [] (stand_rest all t left (right ∷ []) ts)) in
    ap (λ o. meet_if plan r o (slice_get plan.terms (suc t))) a.1
    ∙ ap (meet_if plan r (Some a.0)) b.1
    ∙ meet_same plan r a.0 b.0
    ∙ ap (λ x. meet_trees plan r x (trees.term_of b.0)) a.2
    ∙ ap (meet_trees plan r left) b.2
    ∙ h

one_meets : (model : Model) (tables : List VariantTable) (plan : Plan) → IsPlanOf model tables plan
    → (v t : ℕ) (term : trees.Term)
    → StandFrom (terms_of (drafts_of (layout_of model))) t (term ∷ [])
    → meet_trees plan relations.Equal (trees.Read v) term ≡ true
    → meet_if plan relations.Equal (Some (terms.Read v)) (slice_get plan.terms t) ≡ true
one_meets model tables plan is v t term ts h =
    let all = terms_of (drafts_of (layout_of model)) in
    let a = made_from trees.term_of plan.terms all is.terms t term (stand_first all t term [] ts) in
    ap (meet_if plan relations.Equal (Some (terms.Read v))) a.1
    ∙ meet_same plan relations.Equal (terms.Read v) a.0
    ∙ ap (meet_trees plan relations.Equal (trees.Read v)) a.2
    ∙ h

kind_meets : (model : Model) (tables : List VariantTable) (plan : Plan) → IsPlanOf model tables plan
    → (t : ℕ) (demand : Demand)
    → demand_typed plan demand ≡ true → StandFrom (terms_of (drafts_of (layout_of model))) t (demand_terms demand)
    → kind_typed plan (kind_from t demand) ≡ true
kind_meets model tables plan is t (among v restriction) h ts = h
kind_meets model tables plan is t (compare r left right) h ts =
    let parts = and_parts (not (typing.is_equality r)) (meet_trees plan r left right) h in
    and_from (not (typing.is_equality r)) (meet_if plan r (slice_get plan.terms t) (slice_get plan.terms (suc t)))
    parts.0
    (both_meet model tables plan is r t left right ts parts.1)
kind_meets model tables plan is t (equate left right) h ts =
    both_meet model tables plan is relations.Equal t left right ts h
kind_meets model tables plan is t (by_table table columns) h ts = h
kind_meets model tables plan is t never h ts = refl
kind_meets model tables plan is t (last v) h ts = refl
kind_meets model tables plan is t (line i) h ts = refl

keys_typed : (model : Model) (tables : List VariantTable) (plan : Plan) → IsPlanOf model tables plan
    → (table t : ℕ) (keys : List KeyDraft)
    → list_all (key_meets plan table) keys ≡ true
    → StandFrom (terms_of (drafts_of (layout_of model))) t (map (λ key. key.term) keys)
    → list_all (key_typed plan table) (keys_from t keys) ≡ true
keys_typed model tables plan is table t [] h ts = refl
keys_typed model tables plan is table t (key ∷ keys) h ts =
    let all = terms_of (drafts_of (layout_of model)) in
    let rest = map (λ key. key.term) keys in
    let parts = and_parts (key_meets plan table key) (list_all (key_meets plan table) keys) h in
    let list = column_list plan table key.column in
    let a = made_from trees.term_of plan.terms all is.terms t key.term (stand_first all t key.term rest ts) in
    and_from (meets_list_if plan list (slice_get plan.terms t))
    (list_all (key_typed plan table) (keys_from (suc t) keys))
    (ap (meets_list_if plan list) a.1 ∙ meets_same plan list a.0
    ∙ ap (λ x. key_meets plan table (record { column = key.column; term = x })) a.2 ∙ parts.0)
    (keys_typed model tables plan is table (suc t) keys parts.1 (stand_rest all t key.term rest ts))

action_meant : (model : Model) (tables : List VariantTable) (plan : Plan) → IsPlanOf model tables plan
    → (t : ℕ) (a : Action)
    → action_meets plan a ≡ true → StandFrom (terms_of (drafts_of (layout_of model))) t (action_terms a)
    → action_typed plan (action_from t a) ≡ true
action_meant model tables plan is t (assign v term) h ts = one_meets model tables plan is v t term ts h
action_meant model tables plan is t (set_default v term) h ts = one_meets model tables plan is v t term ts h
action_meant model tables plan is t (delete_default v term) h ts = one_meets model tables plan is v t term ts h
action_meant model tables plan is t (look_up table keys filled) h ts =
    let parts = and_parts (list_all (key_meets plan table) keys) (list_all (filled_typed plan table) filled) h in
    and_from (list_all (key_typed plan table) (keys_from t keys)) (list_all (filled_typed plan table) filled)
    (keys_typed model tables plan is table t keys parts.0 ts) parts.1

pub has_types : (model : Model) (tables : List VariantTable) (plan : Plan) → IsPlanOf model tables plan → HasLists plan
    → IsTyped model
    → HasTypes plan
has_types model tables plan is lists sound = record {
  conditions_typed = conditions_pass (λ c. typed_tree plan c ≡ true) (condition_typed plan)
      (λ c h. typed_same plan c ∙ h) model tables plan is
      sound (typed_conditions model tables plan is lists);
  rules_typed = rules_pass (λ d. demand_typed plan d ≡ true)
      (λ rule. kind_typed plan rule.kind) model tables plan is sound
      (typed_demands model tables plan is lists) (λ c t d h cs ts. kind_meets model tables plan is t d.demand h ts);
  statements_typed = statements_pass (λ a. action_meets plan a ≡ true) (statement_typed plan) model tables plan is sound
      (typed_actions model tables plan is lists) (λ c t d h cs ts. action_meant model tables plan is t d.action h ts);
}
