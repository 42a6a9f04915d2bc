-- Variables of a plan are cut at every number that a condition, a restriction or a table puts beside them.
use Rattle.std.proofs.Common.{◌≡◌, ℕ, false, List, [], ◌∷◌, ◌++◌, length, flat_map, None, inl, inr, refl, sym, ap}
use Rattle.std.proofs.Common.{subst}
use Rattle.std.specs.List.{list_all, list_any}
use Rattle.std.proofs.lemmas.Bool.{or_left}
use Rattle.vc_model_parts.specs.declared.parts.Model.{Model}
use Rattle.vc_plan.specs.Cuts.{condition_cuts, is_cut, is_cut_at, kind_cuts}
use Rattle.vc_plan.specs.Domains.{grains_of, numbers_below}
use Rattle.vc_plan.specs.declared.plans.Plan.{Plan}
use Rattle.vc_plan.specs.declared.plans.Slot.{Slot}
use Rattle.vc_syntax_tree.specs.Trees as syntax
use Rattle.vc_table.specs.declared.table.VariantTable.{VariantTable}
use Rattle.vc_types.specs.Faults.{fault_of}
use Rattle.vc_types.specs.Occurrences.{call_of_demand, conditions_in, demanded_relations, relation_of_demand}
use Rattle.vc_types.specs.Occurrences.{relations_of, uses_in, uses_of_relation, uses_of_term, values_in}
use Rattle.vc_types.specs.PlaceFaults.{is_computed}
use Rattle.vc_types.specs.Settings.{setting_of, variables_in}
use Rattle.vc_types.specs.declared.place.At.{At}
use Rattle.vc_types.specs.declared.place.Place.{Place}
use Rattle.vc_compile_plan.specs.Conditions.{condition_at}
use Rattle.vc_compile_plan.specs.Cuts.{call_marks, constraint_calls, dependency_marks, relation_marks}
use Rattle.vc_compile_plan.specs.Cuts.{restriction_marks}
use Rattle.vc_compile_plan.specs.Layouts.{layout_of}
use Rattle.vc_compile_plan.specs.Places.{place_at, site_at}
use Rattle.vc_compile_plan.specs.PlanOf.{IsPlanOf}
use Rattle.vc_compile_plan.specs.Rules.{constraint_site, demand_at, in_net}
use Rattle.vc_compile_plan.specs.Sites.{Site}
use Rattle.vc_compile_plan.specs.Uses.{is_active, stands_somewhere}
use Rattle.vc_compile_valid.specs.Domains.{HasLists}
use Rattle.vc_compile_valid.proofs.EachLaws.{Each, each_both, each_more}
use Rattle.vc_compile_valid.proofs.ListLaws.{all_flat, all_joined, from_each}
use Rattle.vc_compile_meant.specs.Scopes.{IsTyped}
use Rattle.vc_compile_meant.proofs.FaultLaws.{IsUsed, all_used, each_false, each_split, each_unflat, is_sound}
use Rattle.vc_compile_meant.proofs.TreeLaws.{uses_by_term}
use Rattle.vc_compile_origins.proofs.OriginLaws.{conditions_pass, rules_pass}
use Rattle.vc_compile_origins.proofs.Origins.{HoldsOfConditions, HoldsOfDemands, IsTreeOf, StandsAt, StandsIn}
use Rattle.vc_compile_origins.proofs.RelationLaws.{condition_holds, uses_by_relation}
use Rattle.vc_compile_cutting.specs.Cuts.{IsCut}
use Rattle.vc_compile_cutting.proofs.DemandLaws.{CallMarked, IsMarked, IsMarkedTwice, call_demanded, relation_demanded}
use Rattle.vc_compile_cutting.proofs.DemandLaws.{relations_cut}
use Rattle.vc_compile_cutting.proofs.MarkLaws.{Cuts, used_cut}
use Rattle.vc_compile_cutting.proofs.NumberLaws.{CutsDemanded, CutsIn, all_cut, condition_cut, demand_cut, of_cuts}

-- a dependency that stands without a fault at a site, and whose marks cut
record IsMarkedTree (model : Model) (tables : List VariantTable) (plan : Plan) (site : Site)
    (tree : syntax.Dependency) : Type 0 where
  of : site.setting.model ≡ model
  used : Each (IsUsed site.setting) (uses_in tree)
  marks : Each (Cuts plan) (dependency_marks model tables tree)
  variables : variables_in model tree ≡ site.setting.variables

marked_tree : (model : Model) (tables : List VariantTable) (plan : Plan) (place : Place) (tree : syntax.Dependency)
    → fault_of model place tree ≡ None → (site : Site) → setting_of model place tree ≡ site.setting
    → Each (Cuts plan) (dependency_marks model tables tree) → IsMarkedTree model tables plan site tree
marked_tree model tables plan place tree sound site e marks = record {
  of = ap (λ s. s.model) (sym e);
  used = subst (λ s. Each (IsUsed s) (uses_in tree)) e
      (all_used (setting_of model place tree) tree (is_sound model place tree sound));
  marks = marks;
  variables = ap (λ s. s.variables) e;
}

-- its conditions
conditions_marked : (model : Model) (tables : List VariantTable) (plan : Plan) (site : Site) (tree : syntax.Dependency)
    → IsMarkedTree model tables plan site tree
    → Each (λ c. Each (IsMarked model plan site) (relations_of c)) (conditions_in tree)
conditions_marked model tables plan site tree t =
    let relations = flat_map relations_of (conditions_in tree) in
    let vars = variables_in model tree in
    let used = each_split (λ r. Each (IsUsed site.setting) (uses_of_relation r)) relations (demanded_relations tree)
    (uses_by_relation (IsUsed site.setting) tree t.used) in
    let front = each_split (Cuts plan) (flat_map (relation_marks model vars) relations)
    (flat_map (restriction_marks model vars) (demanded_relations tree)
    ++ flat_map (call_marks model tables vars) (constraint_calls tree)) t.marks in
    let marks = subst (λ vs. Each (λ r. Each (Cuts plan) (relation_marks model vs r)) relations) t.variables
    (each_unflat (Cuts plan) (relation_marks model vars) relations front.0) in
    each_unflat (IsMarked model plan site) relations_of (conditions_in tree)
    (each_both (λ r. Each (IsUsed site.setting) (uses_of_relation r))
    (λ r. Each (Cuts plan) (relation_marks model site.setting.variables r))
    relations used.0 marks)

conditions_cut : (model : Model) (tables : List VariantTable) (plan : Plan) → IsPlanOf model tables plan → (site : Site)
    (tree : syntax.Dependency) → IsMarkedTree model tables plan site tree
    → Each (λ c. CutsIn plan (condition_at (layout_of model) site c)) (conditions_in tree)
conditions_cut model tables plan is site tree t =
    each_more (λ c. Each (IsMarked model plan site) (relations_of c))
    (λ c. CutsIn plan (condition_at (layout_of model) site c))
    (condition_holds (CutsIn plan) (IsMarked model plan site) (layout_of model) site (of_cuts plan)
    (relations_cut model tables plan is site t.of)) (conditions_in tree)
    (conditions_marked model tables plan site tree t)

-- and what a constraint demands
demands_cut : (model : Model) (tables : List VariantTable) (plan : Plan) → IsPlanOf model tables plan → HasLists plan
    → (site : Site)
    → site.setting.model ≡ model → (rs : List syntax.Restriction)
    → Each (λ r. Each (IsMarkedTwice model plan site) (relation_of_demand r.demand)) rs
    → Each (λ r. Each (CallMarked model tables plan site) (call_of_demand r.demand)) rs
    → Each (λ r. CutsDemanded plan (demand_at (layout_of model) site r.demand)) rs
demands_cut model tables plan is lists site of [] relations calls = tt
demands_cut model tables plan is lists site of (r ∷ rs) relations calls = (
  by r.demand relations.0 calls.0,
  demands_cut model tables plan is lists site of rs relations.1 calls.1,
)
  where
    by : (d : syntax.Demand) → Each (IsMarkedTwice model plan site) (relation_of_demand d)
        → Each (CallMarked model tables plan site) (call_of_demand d)
        → CutsDemanded plan (demand_at (layout_of model) site d)
    by (syntax.Relates relation) h k = relation_demanded model tables plan is lists site of relation h.0
    by (syntax.Holds call) h k = call_demanded model tables plan is site of call k.0
    by syntax.Never h k = tt

calls_marked : (model : Model) (tables : List VariantTable) (plan : Plan) (site : Site) (calls : List syntax.TableCall)
    → Each (λ call. Each (λ t. Each (IsUsed site.setting) (uses_of_term t)) (values_in call)) calls
    → Each (λ call. list_any is_computed call.bindings ≡ false) calls
    → Each (λ call. Each (Cuts plan) (call_marks model tables site.setting.variables call)) calls
    → Each (CallMarked model tables plan site) calls
calls_marked model tables plan site [] used right marks = tt
calls_marked model tables plan site (call ∷ calls) used right marks = (
  record { used = used.0; right = each_false is_computed call.bindings right.0; marks = marks.0 },
  calls_marked model tables plan site calls used.1 right.1 marks.1,
)

constraint_cut : (model : Model) (tables : List VariantTable) (plan : Plan) → IsPlanOf model tables plan → HasLists plan
    → (constraint : syntax.Constraint) (tuple : List ℕ) → fault_of model in_net (syntax.Constrains constraint) ≡ None
    → Each (Cuts plan) (dependency_marks model tables (syntax.Constrains constraint))
    → Each (λ r. CutsDemanded plan
    (demand_at (layout_of model) (constraint_site (layout_of model) constraint tuple) r.demand))
    constraint.restrictions
constraint_cut model tables plan is lists constraint tuple sound marks =
    let site = constraint_site (layout_of model) constraint tuple in
    let tree = syntax.Constrains constraint in
    let rs = constraint.restrictions in
    let vars = variables_in model tree in
    let no_fault = is_sound model in_net tree sound in
    let used = all_used site.setting tree no_fault in
    let relations = flat_map (λ r. relation_of_demand r.demand) rs in
    let calls = flat_map (λ r. call_of_demand r.demand) rs in
    let of_relations
    = each_split (λ r. Each (IsUsed site.setting) (uses_of_relation r)) (flat_map relations_of (conditions_in tree))
    relations
    (uses_by_relation (IsUsed site.setting) tree used) in
    let of_calls
    = each_unflat (λ t. Each (IsUsed site.setting) (uses_of_term t)) values_in calls
    (uses_by_term (IsUsed site.setting) tree used) in
    let back
    = each_split (Cuts plan) (flat_map (relation_marks model vars) (flat_map relations_of (conditions_in tree)))
    (flat_map (restriction_marks model vars) relations ++ flat_map (call_marks model tables vars) calls) marks in
    let both
    = each_split (Cuts plan) (flat_map (restriction_marks model vars) relations)
    (flat_map (call_marks model tables vars) calls) back.1 in
    demands_cut model tables plan is lists site refl rs
    (each_unflat (IsMarkedTwice model plan site) (λ r. relation_of_demand r.demand) rs
    (each_both (λ r. Each (IsUsed site.setting) (uses_of_relation r))
    (λ r. Each (Cuts plan) (restriction_marks model vars r)) relations
    of_relations.1 (each_unflat (Cuts plan) (restriction_marks model vars) relations both.0)))
    (each_unflat (CallMarked model tables plan site) (λ r. call_of_demand r.demand) rs
    (calls_marked model tables plan site calls of_calls
    (each_false (λ call. list_any is_computed call.bindings) calls no_fault.terms)
    (each_unflat (Cuts plan) (call_marks model tables vars) calls both.1)))

-- marks of what stands somewhere cut
net_marks : (model : Model) (tables : List VariantTable) (plan : Plan) → IsPlanOf model tables plan → HasLists plan
    → (constraint : syntax.Constraint) (tuple : List ℕ) → StandsIn model constraint tuple
    → Each (Cuts plan) (dependency_marks model tables (syntax.Constrains constraint))
net_marks model tables plan is lists constraint tuple stands =
    used_cut model tables plan is lists stands.d (syntax.Constrains constraint) stands.tree
    (or_left (is_active (layout_of model) stands.d) (stands_somewhere (layout_of model) stands.d) stands.active)

slot_cut : (model : Model) (tables : List VariantTable) (plan : Plan) → IsPlanOf model tables plan → HasLists plan
    → (i : ℕ) (slot : Slot)
    (at : At) (tree : syntax.Dependency) → StandsAt model i slot at tree
    → Each (λ c. CutsIn plan (condition_at (layout_of model) (site_at (layout_of model) i slot at) c))
    (conditions_in tree)
slot_cut model tables plan is lists i slot at tree stands = by stands.origin
  where
    site : Site
    site = site_at (layout_of model) i slot at

    none : (term : syntax.Term) → tree ≡ syntax.Counts term
        → Each (λ c. CutsIn plan (condition_at (layout_of model) (site_at (layout_of model) i slot at) c))
        (conditions_in tree)
    none term e =
        subst (λ t. Each (λ c. CutsIn plan (condition_at (layout_of model) (site_at (layout_of model) i slot at) c))
        (conditions_in t)) (sym e) tt

    by : IsTreeOf model tree
        → Each (λ c. CutsIn plan (condition_at (layout_of model) (site_at (layout_of model) i slot at) c))
        (conditions_in tree)
    by (inl dependency) =
        conditions_cut model tables plan is site tree
        (marked_tree model tables plan (place_at (layout_of model) slot at) tree stands.sound site stands.setting
        (used_cut model tables plan is lists dependency.0 tree dependency.1 dependency.2))
    by (inr (inl quantity)) = none (syntax.term_of quantity.item.quantity.value) quantity.counts
    by (inr (inr time)) = none (syntax.term_of time.operation.time.value) time.counts

conditions_hold : (model : Model) (tables : List VariantTable) (plan : Plan) → IsPlanOf model tables plan
    → HasLists plan
    → HoldsOfConditions (CutsIn plan) model
conditions_hold model tables plan is lists = record {
  always = tt;
  parts = λ c d h. h;
  whole = λ c d h k. (h, k);
  at_slot = slot_cut model tables plan is lists;
  at_tuple = λ constraint tuple stands.
      conditions_cut model tables plan is (constraint_site (layout_of model) constraint tuple)
      (syntax.Constrains constraint)
      (marked_tree model tables plan in_net (syntax.Constrains constraint) stands.sound
      (constraint_site (layout_of model) constraint tuple) refl
      (net_marks model tables plan is lists constraint tuple stands));
}

demands_hold : (model : Model) (tables : List VariantTable) (plan : Plan) → IsPlanOf model tables plan → HasLists plan
    → HoldsOfDemands (CutsDemanded plan) model
demands_hold model tables plan is lists = record {
  at_tuple = λ constraint tuple stands.
      constraint_cut model tables plan is lists constraint tuple stands.sound
      (net_marks model tables plan is lists constraint tuple stands);
  of_var = λ v h. tt;
  of_slot = λ i h. tt;
}

pub is_cut_plan : (model : Model) (tables : List VariantTable) (plan : Plan) → IsPlanOf model tables plan
    → HasLists plan → IsTyped model
    → IsCut plan
is_cut_plan model tables plan is lists sound = record {
  cut = from_each (is_cut plan) (numbers_below (length plan.vars)) (λ k v e.
      all_joined (λ n. list_all (is_cut_at n) (grains_of plan v)) (flat_map (condition_cuts v) plan.conditions)
      (flat_map (λ rule. kind_cuts plan v rule.kind) plan.rules)
      (all_flat (λ n. list_all (is_cut_at n) (grains_of plan v)) (condition_cuts v) plan.conditions
      (conditions_pass (CutsIn plan) (λ c. all_cut plan v (condition_cuts v c)) (λ c h. condition_cut plan v c h) model
      tables plan is sound
      (conditions_hold model tables plan is lists)))
      (all_flat (λ n. list_all (is_cut_at n) (grains_of plan v)) (λ rule. kind_cuts plan v rule.kind) plan.rules
      (rules_pass (CutsDemanded plan) (λ rule. all_cut plan v (kind_cuts plan v rule.kind)) model tables plan is sound
      (demands_hold model tables plan is lists) (λ c t d h cs ts. demand_cut plan v t d.demand h))));
}
