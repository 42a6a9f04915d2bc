-- The lines and operations of a plan are those of its slots' objects.
use Rattle.std.proofs.Common.{◌≡◌, ℕ, suc, ◌+◌, ◌<◌, ◌≤◌, Bool, true, ◌&&◌, nat_lt, List, [], ◌∷◌, length, map}
use Rattle.std.proofs.Common.{Option, Some, None, refl, sym, ap, ◌∙◌, arith, subst}
use Rattle.std.specs.Prelude.{nat_le, slice_get, option_map}
use Rattle.std.specs.List.{cons_option, list_all}
use Rattle.std.proofs.lemmas.Bool.{and_from, and_parts, lt-ltb}
use Rattle.std.proofs.lemmas.List.{length-map}
use Rattle.std.proofs.lemmas.List.Folds.{list_all-map}
use Rattle.std.proofs.lemmas.Option.{slice_get_within}
use Rattle.vc_model_parts.specs.declared.parts.BillItem.{BillItem}
use Rattle.vc_model_parts.specs.declared.parts.Component.{Component}
use Rattle.vc_model_parts.specs.declared.parts.Component.TheVariants as components
use Rattle.vc_model_parts.specs.declared.parts.Model.{Model}
use Rattle.vc_model_parts.specs.declared.parts.NamedDependency.{NamedDependency}
use Rattle.vc_model_parts.specs.declared.parts.Object.{Object}
use Rattle.vc_model_parts.specs.declared.parts.Operation as parts
use Rattle.vc_model_drafts.specs.Seen.{SeenItem, SeenOperation, seen_item, seen_model, seen_object, seen_operation}
use Rattle.vc_model_laws.specs.Indices.{is_component_there}
use Rattle.vc_model_laws.specs.Keeps.{Keeps}
use Rattle.vc_model_laws.specs.Limits.{is_item_limited, is_operation_limited}
use Rattle.vc_model_laws.specs.Names.{is_component_spelled, is_item_spelled, is_operation_spelled}
use Rattle.vc_model_laws.proofs.HeadersLaws.{there}
use Rattle.vc_model_laws.proofs.SpelledLaws.{spelled_keeps_all}
use Rattle.vc_model_laws.proofs.TextsLaws.{passes_at}
use Rattle.vc_plan.specs.BillRanges.{line_there, operation_there, selection_there}
use Rattle.vc_plan.specs.Ranges.{is_of}
use Rattle.vc_plan.specs.Spelling.{is_material, is_upper_name}
use Rattle.vc_plan.specs.Valid.{is_four_digits}
use Rattle.vc_plan.specs.declared.plans.Line.{Line}
use Rattle.vc_plan.specs.declared.plans.Operation.{Operation}
use Rattle.vc_plan.specs.declared.plans.Plan.{Plan}
use Rattle.vc_plan.specs.declared.plans.Slot.{Slot}
use Rattle.vc_syntax_tree.specs.Trees.{Condition as SyntaxCondition, Dependency, dependency_of}
use Rattle.vc_table.specs.declared.table.VariantTable.{VariantTable}
use Rattle.vc_compile_plan.specs.Layouts.{Layout, layout_of, tree_of}
use Rattle.vc_compile_plan.specs.Numbering.{drafts_of, conditions_of, item_brings, line_from, line_terms_begin}
use Rattle.vc_compile_plan.specs.Numbering.{lines_begin, operation_from, operation_terms_begin, operations_begin}
use Rattle.vc_compile_plan.specs.Numbering.{selections_from, terms_of}
use Rattle.vc_compile_plan.specs.PlanOf.{IsPlanOf}
use Rattle.vc_compile_plan.specs.Places.{asked_by, operation_site, selection_in, selections_among, site_at}
use Rattle.vc_compile_plan.specs.Shown.{Choice, ItemDraft, choice_at, is_configurable, line_at, line_choices}
use Rattle.vc_compile_plan.specs.Shown.{line_drafts, material_in, material_of, operation_at, operation_drafts}
use Rattle.vc_compile_plan.specs.Shown.{operations_in}
use Rattle.vc_compile_plan.specs.Sites.{Site}
use Rattle.vc_compile_plan.specs.Slots.{bill_in, bill_of, slots_of}
use Rattle.vc_types.specs.declared.place.At.TheVariants as at
use Rattle.vc_compile_laws.specs.Bills.{HasBills}
use Rattle.vc_compile_laws.specs.Compiles.{CompiledKeeps}
use Rattle.vc_compile_valid.proofs.EachLaws.{Each, each_both, each_by_slot, each_mapped, each_more, each_passes}
use Rattle.vc_compile_valid.proofs.EachLaws.{each_tested}
use Rattle.vc_compile_valid.proofs.NumberingLaws.{StandFrom, condition_count, line_conditions, line_terms}
use Rattle.vc_compile_valid.proofs.NumberingLaws.{numbered_each, operation_conditions, operation_terms, stand_within}
use Rattle.vc_compile_valid.proofs.NumberingLaws.{term_count}
use Rattle.vc_compile_laws.proofs.VariableLaws.{slots_same}

-- a dependency that is asked is one of the model's
pub asked_there : (condition_in : Option Dependency → Option SyntaxCondition) → condition_in None ≡ None
    → (model : Model)
    → (uses : List ℕ) → Each (λ a. a.dependency < length model.dependencies) (asked_by condition_in model uses)
asked_there condition_in none model [] = tt
asked_there condition_in none model (d ∷ uses) =
    by (condition_in (tree_of model d)) refl (asked_there condition_in none model uses)
  where
    inside : (o : Option NamedDependency) → slice_get model.dependencies d ≡ o → (c : SyntaxCondition)
        → condition_in (tree_of model d) ≡ Some c → d < length model.dependencies
    inside None e c f = absurd (let gone : None ≡ Some c = sym none
        ∙ (ap (λ o. condition_in (option_map (λ named. dependency_of named.tree) o)) (sym e) ∙ f) in cc)
    inside (Some x) e c f = slice_get_within model.dependencies d x e

    by : (o : Option SyntaxCondition) → condition_in (tree_of model d) ≡ o
        → Each (λ a. a.dependency < length model.dependencies) (asked_by condition_in model uses)
        → Each (λ a. a.dependency < length model.dependencies)
        (cons_option (option_map (λ condition. record { dependency = d; condition = condition }) o)
        (asked_by condition_in model uses))
    by None e more = more
    by (Some c) e more = (inside (slice_get model.dependencies d) refl c e, more)

-- a line or an operation of a slot that is there, with words, and what it asks
pub record IsItem (slots dependencies : ℕ) (word : List ℕ → Bool) (draft : ItemDraft) : Type 0 where
  pub slot : draft.slot < slots
  pub number : is_four_digits draft.number ≡ true
  pub word_is : word draft.word ≡ true
  pub unit : is_material draft.unit ≡ true
  pub choices : Each (λ choice. choice.dependency < dependencies) draft.choices

choices_there : (layout : Layout) (site : Site) (model : Model) (uses : List ℕ)
    → Each (λ choice. choice.dependency < length model.dependencies)
    (map (choice_at layout site) (selections_among model uses))
choices_there layout site model uses =
    each_mapped (λ choice. choice.dependency < length model.dependencies) (choice_at layout site)
    (selections_among model uses)
    (asked_there selection_in refl model uses)

-- what all lines, and all operations, of a model's objects pass
items_pass : (model : Model) (p : SeenItem → Bool)
    → list_all (λ object. list_all p object.bill) (map seen_object model.objects) ≡ true → (o : ℕ)
    → Each (λ item. p (seen_item item) ≡ true) (bill_of model o)
items_pass model p all o = by (slice_get model.objects o) refl
  where
    by : (x : Option Object) → slice_get model.objects o ≡ x → Each (λ item. p (seen_item item) ≡ true) (bill_in x)
    by None e = tt
    by (Some object) e =
        each_tested (λ item. p (seen_item item)) object.bill
        (sym (list_all-map p seen_item object.bill)
        ∙ passes_at (λ x. list_all p (map seen_item x.bill)) model.objects o object
        (sym (list_all-map (λ x. list_all p x.bill) seen_object model.objects) ∙ all) e)

operations_pass : (model : Model) (p : SeenOperation → Bool)
    → list_all (λ object. list_all p object.operations) (map seen_object model.objects) ≡ true → (o : ℕ)
    → Each (λ operation. p (seen_operation operation) ≡ true) (operations_in (slice_get model.objects o))
operations_pass model p all o = by (slice_get model.objects o) refl
  where
    by : (x : Option Object) → slice_get model.objects o ≡ x
        → Each (λ operation. p (seen_operation operation) ≡ true) (operations_in x)
    by None e = tt
    by (Some object) e =
        each_tested (λ operation. p (seen_operation operation)) object.operations
        (sym (list_all-map p seen_operation object.operations)
        ∙ passes_at (λ x. list_all p (map seen_operation x.operations)) model.objects o object
        (sym (list_all-map (λ x. list_all p x.operations) seen_object model.objects) ∙ all) e)

-- the material of a line is that of its object
material_is : (model : Model) → Keeps (seen_model model) → (x : Component)
    → is_component_there (length (map seen_object model.objects)) x ≡ true → is_component_spelled x ≡ true
    → is_material (material_of model x) ≡ true
material_is model keeps (components.Object o) inside spelled =
    by (slice_get model.objects o) refl
  where
    count : length (map seen_object model.objects) ≡ length model.objects
    count = length-map model.objects seen_object

    by : (x : Option Object) → slice_get model.objects o ≡ x → is_material (material_in x) ≡ true
    by None e = absurd (let none = there model.objects o (ap (λ n. nat_lt o n) (sym count) ∙ inside) in
        let both = sym e ∙ none.1 in cc)
    by (Some object) e =
        passes_at (λ object. is_material object.material) model.objects o object
        (sym (list_all-map (λ object. is_material object.material) seen_object model.objects) ∙ keeps.names.materials) e
material_is model keeps (components.Plain material) inside spelled = spelled

line_is_item : (layout : Layout) (model : Model) → Keeps (seen_model model) → layout ≡ layout_of model
    → (i : ℕ) (slot : Slot)
    → i < length (slots_of model) → Each (IsItem (length (slots_of model)) (length model.dependencies) is_material)
    (map (line_at layout i slot) (bill_of model slot.object))
line_is_item layout model keeps of i slot below =
    each_mapped (IsItem (length (slots_of model)) (length model.dependencies) is_material) (line_at layout i slot)
    (bill_of model slot.object)
    (each_more
    (λ item. (is_item_spelled (seen_item item) ≡ true)
    × ((is_item_limited (seen_item item) ≡ true)
    × (is_component_there (length (map seen_object model.objects)) item.component ≡ true)))
    (λ item. IsItem (length (slots_of model)) (length model.dependencies) is_material (line_at layout i slot item))
    (λ item h. made item h.0 h.1.0 h.1.1)
    (bill_of model slot.object)
    (each_both (λ item. is_item_spelled (seen_item item) ≡ true)
    (λ item. (is_item_limited (seen_item item) ≡ true)
    × (is_component_there (length (map seen_object model.objects)) item.component ≡ true))
    (bill_of model slot.object) (items_pass model is_item_spelled keeps.names.items slot.object)
    (each_both (λ item. is_item_limited (seen_item item) ≡ true)
    (λ item. is_component_there (length (map seen_object model.objects)) item.component ≡ true)
    (bill_of model slot.object) (items_pass model is_item_limited keeps.limits.item_limits slot.object)
    (items_pass model (λ item. is_component_there (length (map seen_object model.objects)) item.component)
    keeps.indices.components slot.object))))
  where
    choices : (x : Component) (uses : List ℕ) (site : Site)
        → Each (λ choice. choice.dependency < length model.dependencies) (line_choices layout site x uses)
    choices (components.Object o) uses site = tt
    choices (components.Plain material) uses site =
        subst (λ m. Each (λ choice. choice.dependency < length model.dependencies)
        (map (choice_at layout site) (selections_among m uses)))
        (ap (λ l. l.model) (sym of)) (choices_there layout site model uses)

    made : (item : BillItem) → is_item_spelled (seen_item item) ≡ true → is_item_limited (seen_item item) ≡ true
        → is_component_there (length (map seen_object model.objects)) item.component ≡ true
        → IsItem (length (slots_of model)) (length model.dependencies) is_material (line_at layout i slot item)
    made item spelled limited inside =
        let words = and_parts (is_component_spelled item.component) (is_material item.unit) spelled in
        record {
          slot = below;
          number = (and_parts (nat_lt item.item 10_000) (nat_le (length item.uses) 100) limited).0;
          word_is = ap (λ l. is_material (material_of l.model item.component)) of
              ∙ material_is model keeps item.component inside words.0;
          unit = words.1;
          choices = choices item.component item.uses (site_at layout i slot (at.Line (is_configurable item.component)));
        }

operation_is_item : (layout : Layout) (model : Model) → Keeps (seen_model model) → layout ≡ layout_of model
    → (i : ℕ) (slot : Slot)
    → i < length (slots_of model) → Each (IsItem (length (slots_of model)) (length model.dependencies) is_upper_name)
    (map (operation_at layout i slot) (operations_in (slice_get model.objects slot.object)))
operation_is_item layout model keeps of i slot below =
    each_mapped (IsItem (length (slots_of model)) (length model.dependencies) is_upper_name)
    (operation_at layout i slot)
    (operations_in (slice_get model.objects slot.object))
    (each_more
    (λ x. (is_operation_spelled (seen_operation x) ≡ true) × (is_operation_limited (seen_operation x) ≡ true))
    (λ x. IsItem (length (slots_of model)) (length model.dependencies) is_upper_name (operation_at layout i slot x))
    (λ x h. made x h.0 h.1)
    (operations_in (slice_get model.objects slot.object))
    (each_both (λ x. is_operation_spelled (seen_operation x) ≡ true)
    (λ x. is_operation_limited (seen_operation x) ≡ true)
    (operations_in (slice_get model.objects slot.object))
    (operations_pass model is_operation_spelled keeps.names.operations slot.object)
    (operations_pass model is_operation_limited keeps.limits.operation_limits slot.object)))
  where
    made : (x : parts.Operation) → is_operation_spelled (seen_operation x) ≡ true
        → is_operation_limited (seen_operation x) ≡ true
        → IsItem (length (slots_of model)) (length model.dependencies) is_upper_name (operation_at layout i slot x)
    made x spelled limited =
        let words = and_parts (is_upper_name x.centre) (is_material x.unit) spelled in
        record {
          slot = below;
          number = (and_parts (nat_lt x.number 10_000) (nat_le (length x.uses) 100) limited).0;
          word_is = words.0;
          unit = words.1;
          choices = subst (λ m. Each (λ choice. choice.dependency < length model.dependencies)
              (map (choice_at layout (operation_site layout i slot)) (selections_among m x.uses)))
              (ap (λ l. l.model) (sym of)) (choices_there layout (operation_site layout i slot) model x.uses);
        }

pub all_lines : (model : Model) → Keeps (seen_model model)
    → Each (IsItem (length (slots_of model)) (length model.dependencies) is_material) (line_drafts (layout_of model))
all_lines model keeps =
    each_by_slot (IsItem (length (slots_of model)) (length model.dependencies) is_material)
    (λ i slot. map (line_at (layout_of model) i slot) (bill_of model slot.object)) 0 (slots_of model)
    (λ k slot e. let below = slice_get_within (slots_of model) k slot e in
    line_is_item (layout_of model) model keeps refl (0 + k) slot (omega (arith, below)))

pub all_operations : (model : Model) → Keeps (seen_model model)
    → Each (IsItem (length (slots_of model)) (length model.dependencies) is_upper_name)
    (operation_drafts (layout_of model))
all_operations model keeps =
    each_by_slot (IsItem (length (slots_of model)) (length model.dependencies) is_upper_name)
    (λ i slot. map (operation_at (layout_of model) i slot) (operations_in (slice_get model.objects slot.object))) 0
    (slots_of model)
    (λ k slot e. let below = slice_get_within (slots_of model) k slot e in
    operation_is_item (layout_of model) model keeps refl (0 + k) slot (omega (arith, below)))

-- selection conditions have numbers that are there
selections_there : (plan : Plan) (c : ℕ) (choices : List Choice)
    → Each (λ choice. choice.dependency < length plan.dependencies) choices
    → c + length (map (λ choice. choice.condition) choices) ≤ length plan.conditions
    → list_all (selection_there plan) (selections_from c choices) ≡ true
selections_there plan c [] all fits = refl
selections_there plan c (choice ∷ choices) all fits =
    and_from (is_of plan.dependencies choice.dependency && is_of plan.conditions c)
    (list_all (selection_there plan) (selections_from (suc c) choices))
    (and_from (is_of plan.dependencies choice.dependency) (is_of plan.conditions c)
    (lt-ltb choice.dependency (length plan.dependencies) all.0)
    (lt-ltb c (length plan.conditions) (omega (arith, fits))))
    (selections_there plan (suc c) choices all.1 (omega (arith, fits)))

-- what a numbered line, and operation, has
pub record IsLine (plan : Plan) (line : Line) : Type 0 where
  pub is_there : line_there plan line ≡ true
  pub words : (is_material line.material && is_material line.unit) ≡ true
  pub item : is_four_digits line.item ≡ true

pub record IsOperation (plan : Plan) (operation : Operation) : Type 0 where
  pub is_there : operation_there plan operation ≡ true
  pub words : (is_upper_name operation.name && is_material operation.unit) ≡ true
  pub number : is_four_digits operation.number ≡ true

-- what it names is there
item_there : (model : Model) (tables : List VariantTable) (plan : Plan) → IsPlanOf model tables plan
    → (word : List ℕ → Bool)
    → (c t : ℕ) (draft : ItemDraft) → IsItem (length (slots_of model)) (length model.dependencies) word draft
    → StandFrom (conditions_of (drafts_of (layout_of model))) c (item_brings.conditions draft)
    → StandFrom (terms_of (drafts_of (layout_of model))) t (item_brings.terms draft)
    → (is_of plan.slots draft.slot
    && (is_of plan.terms t && list_all (selection_there plan) (selections_from c draft.choices)))
    ≡ true
item_there model tables plan is word c t draft item cs ts =
    let drafts = drafts_of (layout_of model) in
    let slots = slots_same model tables plan is in
    let slot = item.slot in
    let terms = term_count (layout_of model) drafts tables plan is in
    let term = stand_within (terms_of drafts) t (item_brings.terms draft) ts in
    let conditions = condition_count (layout_of model) drafts tables plan is in
    let all = stand_within (conditions_of drafts) c (item_brings.conditions draft) cs in
    let dependencies = ap length is.dependencies ∙ length-map model.dependencies (λ d. d.name) in
    and_from (is_of plan.slots draft.slot)
    (is_of plan.terms t && list_all (selection_there plan) (selections_from c draft.choices))
    (lt-ltb draft.slot (length plan.slots) (omega (arith, slot, slots)))
    (and_from (is_of plan.terms t) (list_all (selection_there plan) (selections_from c draft.choices))
    (lt-ltb t (length plan.terms) (omega (arith, terms, term)))
    (selections_there plan c draft.choices
    (each_more (λ choice. choice.dependency < length model.dependencies)
    (λ choice. choice.dependency < length plan.dependencies)
    (λ choice h. omega (arith, h, dependencies)) draft.choices item.choices)
    (omega (arith, conditions, all))))

lines : (model : Model) (tables : List VariantTable) (plan : Plan) → Keeps (seen_model model)
    → IsPlanOf model tables plan
    → Each (IsLine plan) plan.lines
lines model tables plan keeps is =
    let drafts = drafts_of (layout_of model) in
    let Item : ItemDraft → Type 0 = IsItem (length (slots_of model)) (length model.dependencies) is_material in
    subst (Each (IsLine plan)) (sym is.lines)
    (numbered_each item_brings line_from Item (IsLine plan) (conditions_of drafts) (terms_of drafts)
    (λ c t draft item cs ts. record {
      is_there = item_there model tables plan is is_material c t draft item cs ts;
      words = and_from (is_material draft.word) (is_material draft.unit) item.word_is item.unit;
      item = item.number;
    }) (lines_begin drafts) (line_terms_begin drafts) drafts.lines (all_lines model keeps) (line_conditions drafts)
    (line_terms drafts))

operations : (model : Model) (tables : List VariantTable) (plan : Plan) → Keeps (seen_model model)
    → IsPlanOf model tables plan
    → Each (IsOperation plan) plan.operations
operations model tables plan keeps is =
    let drafts = drafts_of (layout_of model) in
    let Item : ItemDraft → Type 0 = IsItem (length (slots_of model)) (length model.dependencies) is_upper_name in
    subst (Each (IsOperation plan)) (sym is.operations)
    (numbered_each item_brings operation_from Item (IsOperation plan) (conditions_of drafts) (terms_of drafts)
    (λ c t draft item cs ts. record {
      is_there = item_there model tables plan is is_upper_name c t draft item cs ts;
      words = and_from (is_upper_name draft.word) (is_material draft.unit) item.word_is item.unit;
      number = item.number;
    }) (operations_begin drafts) (operation_terms_begin drafts) drafts.operations (all_operations model keeps)
    (operation_conditions drafts) (operation_terms drafts))

pub has_bills : CompiledKeeps HasBills
has_bills text model tables plan spells read compiles =
    let keeps = spelled_keeps_all text (seen_model model) spells in
    let ls = lines model tables plan keeps compiles.is_its in
    let os = operations model tables plan keeps compiles.is_its in
    record {
      lines_there = each_passes (IsLine plan) (line_there plan) (λ x h. h.is_there) plan.lines ls;
      operations_there = each_passes (IsOperation plan) (operation_there plan) (λ x h. h.is_there) plan.operations os;
      line_words = each_passes (IsLine plan) (λ line. is_material line.material && is_material line.unit)
          (λ x h. h.words) plan.lines ls;
      operation_words = each_passes (IsOperation plan)
          (λ operation. is_upper_name operation.name && is_material operation.unit)
          (λ x h. h.words) plan.operations os;
      line_items = each_passes (IsLine plan) (λ line. is_four_digits line.item) (λ x h. h.item) plan.lines ls;
      operation_numbers = each_passes (IsOperation plan) (λ operation. is_four_digits operation.number)
          (λ x h. h.number)
          plan.operations os;
    }
