-- What brings a component reads its owner and the root.
use Rattle.std.proofs.Common.{◌≡◌, ℕ, zero, suc, ◌+◌, true, List, [], ◌∷◌, ◌++◌, Option, Some, None, refl, sym, ap, ◌∙◌}
use Rattle.std.proofs.Common.{arith, subst}
use Rattle.std.specs.Prelude.{option_map, slice_get}
use Rattle.std.specs.List.{list_all}
use Rattle.vc_model_parts.specs.declared.parts.Component.{Component}
use Rattle.vc_model_parts.specs.declared.parts.Component.TheVariants as components
use Rattle.vc_model_parts.specs.declared.parts.Model.{Model}
use Rattle.vc_plan.specs.RuleShapes.{line_slot}
use Rattle.vc_plan.specs.Scopes.{kind_own, line_scope, rule_own, scope_if}
use Rattle.vc_plan.specs.Seen.{parent_in}
use Rattle.vc_plan.specs.declared.plans.Plan.{Plan}
use Rattle.vc_syntax_tree.specs.Trees.{Selection}
use Rattle.vc_table.specs.declared.table.VariantTable.{VariantTable}
use Rattle.vc_types.specs.Faults.{fault_of}
use Rattle.vc_types.specs.declared.place.At.TheVariants as at
use Rattle.vc_compile_plan.specs.Conditions.{condition_at}
use Rattle.vc_compile_plan.specs.Layouts.{Layout, layout_of, object_at}
use Rattle.vc_compile_plan.specs.Numbering.{Drafts, conditions_of, drafts_of, kind_from, number_for, rule_brings}
use Rattle.vc_compile_plan.specs.Numbering.{rule_from, terms_of, if_asked}
use Rattle.vc_compile_plan.specs.PlanOf.{IsPlanOf}
use Rattle.vc_compile_plan.specs.Places.{Asked, selection_in, selections_among, site_at}
use Rattle.vc_compile_plan.specs.Refusals as refusals
use Rattle.vc_compile_plan.specs.Refusals.{type_faults}
use Rattle.vc_compile_plan.specs.Rules.{Demand, Draft, among, by_table, compare, constraint_site, constraints_drafts}
use Rattle.vc_compile_plan.specs.Rules.{drafts_of_line, drafts_of_slot, equate, last, last_drafts, line, line_drafts}
use Rattle.vc_compile_plan.specs.Rules.{line_drafts_from, never, restriction_draft, rule_drafts, slot_drafts_from}
use Rattle.vc_compile_plan.specs.Shown.{is_configurable}
use Rattle.vc_compile_plan.specs.Sites.{Site}
use Rattle.vc_compile_plan.specs.Slots.{bill_if, bill_in, object_in, slot_of, standings_of}
use Rattle.vc_compile_plan.specs.Trees as trees
use Rattle.vc_compile_plan.specs.declared.standings.Standing.{Standing}
use Rattle.vc_compile_valid.proofs.DraftLaws.{demand_constrains, each_constraint, each_last, kind_of, no_slot}
use Rattle.vc_compile_valid.proofs.EachLaws.{Each, each_joined, each_more, each_passes}
use Rattle.vc_compile_valid.proofs.NumberingLaws.{StandFrom, numbered_each, rule_conditions, rule_terms}
use Rattle.vc_compile_valid.proofs.PlacedLaws.{IsPart, IsPlacedBelow, placed_at, slot_at, stand_first}
use Rattle.vc_compile_meant.proofs.FaultLaws.{IsTypedAt, each_here}
use Rattle.vc_compile_meant.proofs.ScopeLaws.{Asks, AnySum, asked_within, in_line_scope, selection_asks, selection_is}
use Rattle.vc_compile_meant.proofs.SoundLaws.{IsSoundLine, asked_typed, line_place, sound_at}

-- what a draft asks; one that has no condition asks nothing
abbrev pub condition_if : Option trees.Condition → trees.Condition
condition_if None = trees.Always
condition_if (Some c) = c

pub condition_stands : (drafts : Drafts) (c : ℕ) (o : Option trees.Condition)
    → StandFrom (conditions_of drafts) c (if_asked o)
    → slice_get (conditions_of drafts) (number_for c o) ≡ Some (condition_if o)
condition_stands drafts c None cs = refl
condition_stands drafts c (Some condition) cs = stand_first (conditions_of drafts) c condition [] cs

-- a Line asks within its owner's scope
abbrev OwnerScope : Plan → ℕ → List ℕ
OwnerScope plan i = scope_if line_scope (parent_in (slice_get plan.slots i))

abbrev IsOwnRule : Plan → Draft → Type 0
IsOwnRule plan d = (i : ℕ) → line_slot (kind_of d.demand) ≡ Some i
    → Asks plan (OwnerScope plan i) (condition_if d.condition)

pub configurable_is : (x : Component) (o : ℕ) → object_in x ≡ Some o → is_configurable x ≡ true
configurable_is (components.Object c) o e = refl
configurable_is (components.Plain material) o e = absurd (cc)

line_of : (i j : ℕ) → line_slot (kind_of (line i)) ≡ Some j → i ≡ j
line_of i j e = cc

drafts_own : (plan : Plan) (layout : Layout) (site : Site) (i number : ℕ) (asks : List Asked)
    → Each (λ a. Asks plan (OwnerScope plan i) (condition_at layout site a.condition)) asks
    → Each (IsOwnRule plan) (line_drafts_from layout site i number asks)
drafts_own plan layout site i number [] h = tt
drafts_own plan layout site i number (a ∷ asks) h = (
  λ j e. subst (λ k. Asks plan (OwnerScope plan k) (condition_at layout site a.condition)) (line_of i j e) h.0,
  drafts_own plan layout site i (suc number) asks h.1,
)

lines_own : (plan : Plan) (layout : Layout) (site : Site) (i : ℕ) (asks : List Asked)
    → Each (λ a. Asks plan (OwnerScope plan i) (condition_at layout site a.condition)) asks
    → Each (IsOwnRule plan) (line_drafts layout site i asks)
lines_own plan layout site i [] h = (λ j e. tt, tt)
lines_own plan layout site i (a ∷ asks) h = drafts_own plan layout site i 1 (a ∷ asks) h

part_own : (model : Model) (tables : List VariantTable) (plan : Plan) → IsPlanOf model tables plan
    → refusals.first_of (type_faults (layout_of model)) ≡ None → (i p : ℕ) (s : Standing)
    → slice_get (standings_of model) i ≡ Some s
    → s.parent ≡ Some p → IsPart model (standings_of model) i p s
    → Each (IsOwnRule plan) (drafts_of_slot (layout_of model) i s (Some p))
part_own model tables plan is sound i p s stands parent part =
    let layout = layout_of model in
    let owner = slot_of model (standings_of model) part.above in
    let there = slot_at model p part.above part.there in
    let object : object_at layout p ≡ Some part.above.object = ap (option_map (λ slot. slot.object)) there in
    let scope : OwnerScope plan i ≡ line_scope p =
    ap (λ ss. scope_if line_scope (parent_in (slice_get ss i))) is.slots
    ∙ ap (λ o. scope_if line_scope (parent_in o)) (slot_at model i s stands) ∙ ap (scope_if line_scope) parent in
    let line
    = each_here (IsSoundLine model owner) (bill_in (slice_get model.objects part.above.object)) s.item part.line
    (sound_at model sound p owner there).lines part.listed in
    subst (Each (IsOwnRule plan))
    (sym (ap (λ o. drafts_of_line layout p i o (slice_get (bill_if model (object_at layout p)) s.item)) there
    ∙ ap (λ o. drafts_of_line layout p i (Some owner) (slice_get (bill_if model o) s.item)) object
    ∙ ap (λ o. drafts_of_line layout p i (Some owner) o) part.listed))
    (lines_own plan layout (site_at layout p owner (at.Line true)) i (selections_among model part.line.uses)
    (each_more (λ a. fault_of model (line_place model owner true) (Selection a.condition) ≡ None)
    (λ a. Asks plan (OwnerScope plan i) (condition_at layout (site_at layout p owner (at.Line true)) a.condition))
    (λ a h. subst (λ slots. Asks plan slots (condition_at layout (site_at layout p owner (at.Line true)) a.condition))
    (sym scope)
    (selection_asks model tables plan is p owner there (at.Line true) refl (line_scope p)
    (λ k w. in_line_scope p k owner (at.Line true) refl w) a.condition h))
    (selections_among model part.line.uses)
    (asked_typed selection_in Selection selection_is refl model (λ tree. line_place model owner true) part.line.uses
    (subst (λ b. Each (IsTypedAt model (λ tree. line_place model owner b)) part.line.uses)
    (configurable_is part.line.component s.object part.object) line.uses))))

slots_own : (model : Model) (tables : List VariantTable) (plan : Plan) → IsPlanOf model tables plan
    → refusals.first_of (type_faults (layout_of model)) ≡ None → (i : ℕ) (standings : List Standing)
    → ((k : ℕ) (s : Standing) → slice_get standings k ≡ Some s → slice_get (standings_of model) (i + k) ≡ Some s)
    → Each (IsOwnRule plan) (slot_drafts_from (layout_of model) i standings)
slots_own model tables plan is sound i [] h = tt
slots_own model tables plan is sound i (s ∷ standings) h =
    each_joined (IsOwnRule plan) (drafts_of_slot (layout_of model) i s s.parent)
    (slot_drafts_from (layout_of model) (suc i) standings)
    (of_slot s.parent refl (placed_at model i s here))
    (slots_own model tables plan is sound (suc i) standings
    (λ k x e. subst (λ m. slice_get (standings_of model) m ≡ Some x) (one_more i k) (h (suc k) x e)))
  where
    one_more : (n k : ℕ) → n + suc k ≡ suc n + k
    one_more n k = omega arith

    no_more : (n : ℕ) → n + 0 ≡ n
    no_more n = omega arith

    here : slice_get (standings_of model) i ≡ Some s
    here = subst (λ m. slice_get (standings_of model) m ≡ Some s) (no_more i) (h zero s refl)

    of_slot : (o : Option ℕ) → s.parent ≡ o → IsPlacedBelow model (standings_of model) i s o
        → Each (IsOwnRule plan) (drafts_of_slot (layout_of model) i s o)
    of_slot None e placed = tt
    of_slot (Some p) e placed = part_own model tables plan is sound i p s here e placed

all_own : (model : Model) (tables : List VariantTable) (plan : Plan) → IsPlanOf model tables plan
    → refusals.first_of (type_faults (layout_of model)) ≡ None → Each (IsOwnRule plan) (rule_drafts (layout_of model))
all_own model tables plan is sound =
    let layout = layout_of model in
    each_joined (IsOwnRule plan) (constraints_drafts layout)
    (last_drafts layout ++ slot_drafts_from layout 0 layout.standings)
    (each_constraint (IsOwnRule plan) layout (λ d constraint tuple number restriction some i e.
    absurd (let none = sym (no_slot (restriction_draft layout d constraint tuple number restriction).demand
    (demand_constrains layout (constraint_site layout constraint tuple) restriction.demand)) ∙ e in cc)))
    (each_joined (IsOwnRule plan) (last_drafts layout) (slot_drafts_from layout 0 layout.standings)
    (each_last (IsOwnRule plan) layout (λ v i e. absurd (cc)))
    (slots_own model tables plan is sound 0 (standings_of model)
    (λ k s e. subst (λ m. slice_get (standings_of model) m ≡ Some s) (no_front k) e)))
  where
    no_front : (k : ℕ) → k ≡ 0 + k
    no_front k = omega arith

kind_is_own : (model : Model) (tables : List VariantTable) (plan : Plan) → IsPlanOf model tables plan
    → (n t : ℕ) (demand : Demand)
    (c : trees.Condition) → slice_get (conditions_of (drafts_of (layout_of model))) n ≡ Some c
    → ((i : ℕ) → line_slot (kind_of demand) ≡ Some i → Asks plan (OwnerScope plan i) c)
    → kind_own plan (slice_get plan.conditions n) (kind_from t demand) ≡ true
kind_is_own model tables plan is n t (among v restriction) c e h = refl
kind_is_own model tables plan is n t (compare relation left right) c e h = refl
kind_is_own model tables plan is n t (equate left right) c e h = refl
kind_is_own model tables plan is n t (by_table table columns) c e h = refl
kind_is_own model tables plan is n t never c e h = refl
kind_is_own model tables plan is n t (last v) c e h = refl
kind_is_own model tables plan is n t (line i) c e h =
    asked_within model tables plan is (OwnerScope plan i) AnySum n c e (h i refl)

pub component_reads : (model : Model) (tables : List VariantTable) (plan : Plan) → IsPlanOf model tables plan
    → refusals.first_of (type_faults (layout_of model)) ≡ None → list_all (rule_own plan) plan.rules ≡ true
component_reads model tables plan is sound =
    let drafts = drafts_of (layout_of model) in
    each_passes (λ x. rule_own plan x ≡ true) (rule_own plan) (λ x h. h) plan.rules
    (subst (Each (λ x. rule_own plan x ≡ true)) (sym is.rules)
    (numbered_each rule_brings rule_from (IsOwnRule plan) (λ x. rule_own plan x ≡ true) (conditions_of drafts)
    (terms_of drafts)
    (λ c t d own cs ts. kind_is_own model tables plan is (number_for c d.condition) t d.demand
    (condition_if d.condition)
    (condition_stands drafts c d.condition cs) own) 1 0 drafts.rules (all_own model tables plan is sound)
    (rule_conditions drafts)
    (rule_terms drafts)))
