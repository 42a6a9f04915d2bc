-- What a procedure sums over parts is a number of some part: a slot stands below for a component whose class has it.
use Rattle.std.proofs.Common.{◌≡◌, ℕ, zero, suc, ◌+◌, Bool, true, false, not, ◌&&◌, List, [], ◌∷◌, Option, Some, None}
use Rattle.std.proofs.Common.{refl, sym, ap, ◌∙◌, arith, subst}
use Rattle.std.specs.Prelude.{◌==◌, filter_map, is_some, slice_get}
use Rattle.std.specs.List.{cons_option, list_any}
use Rattle.std.proofs.lemmas.Bool.{and_from, and_parts, eq-eqb, eqb-true, not-false}
use Rattle.vc_model_parts.specs.declared.parts.BillItem.{BillItem}
use Rattle.vc_model_parts.specs.declared.parts.Characteristic.{Characteristic}
use Rattle.vc_model_parts.specs.declared.parts.Class.{Class}
use Rattle.vc_model_parts.specs.declared.parts.Component.{Component}
use Rattle.vc_model_parts.specs.declared.parts.Component.TheVariants as components
use Rattle.vc_model_parts.specs.declared.parts.Model.{Model}
use Rattle.vc_model_parts.specs.declared.parts.Object.{Object}
use Rattle.vc_model_parts.specs.declared.parts.Values.{Values}
use Rattle.vc_model_parts.specs.declared.parts.Values.TheVariants as values
use Rattle.vc_plan.specs.Domains as domains
use Rattle.vc_plan.specs.Orders.{is_number}
use Rattle.vc_plan.specs.PartSums.{is_part_number}
use Rattle.vc_plan.specs.Seen.{parent_in}
use Rattle.vc_plan.specs.Typing.{has_numbers}
use Rattle.vc_plan.specs.declared.plans.Plan.{Plan}
use Rattle.vc_plan.specs.declared.plans.Slot.{Slot}
use Rattle.vc_syntax_tree.specs.declared.NameLeaf.{NameLeaf}
use Rattle.vc_syntax_tree.specs.Trees.{Dependency}
use Rattle.vc_table.specs.declared.table.VariantTable.{VariantTable}
use Rattle.vc_types.specs.Looking.{characteristic_named, class_of, member_in, member_of}
use Rattle.vc_types.specs.Meanings.{known}
use Rattle.vc_types.specs.NameFaults.{is_of_no_part}
use Rattle.vc_types.specs.Occurrences.{has_sum, summed_names, terms_in}
use Rattle.vc_types.specs.PlaceFaults.{is_procedure}
use Rattle.vc_types.specs.Settings.{are_multiple, classes_of_bill, component_class, component_classes, is_multiple}
use Rattle.vc_types.specs.Settings.{multiple_in, sort_in, sort_meant, sort_of_characteristic, sort_of_values}
use Rattle.vc_types.specs.SortFaults as sorts
use Rattle.vc_types.specs.SortFaults.{acts_or_counts_wrongly, calls_wrongly, computes_with_text, declares_set}
use Rattle.vc_types.specs.SortFaults.{is_other_variable, is_text, misuses_set, parts_a_value, relates_wrongly}
use Rattle.vc_types.specs.SortFaults.{sums_texts}
use Rattle.vc_types.specs.declared.place.At.{At}
use Rattle.vc_types.specs.declared.place.At.TheVariants as at
use Rattle.vc_compile_plan.specs.Layouts.{layout_of}
use Rattle.vc_compile_plan.specs.PlanOf.{IsPlanOf}
use Rattle.vc_compile_plan.specs.Places.{procedure_site, site_at}
use Rattle.vc_compile_plan.specs.Sites.{number_or_zero}
use Rattle.vc_compile_plan.specs.Slots.{bill_in, bill_of, object_in, slot_of, slots_of, standings_of}
use Rattle.vc_compile_plan.specs.Variables.{members_if, members_of, var_number, vars_of}
use Rattle.vc_compile_valid.specs.Domains.{HasLists}
use Rattle.vc_compile_valid.specs.Models.{KeepsParts}
use Rattle.vc_compile_valid.proofs.EachLaws.{Each, each_more}
use Rattle.vc_compile_valid.proofs.LineSlotLaws.{is_for, object_is, parts_at}
use Rattle.vc_compile_valid.proofs.ListLaws.{any_there, made_from, some_there}
use Rattle.vc_compile_valid.proofs.NamedLaws.{var_found}
use Rattle.vc_compile_valid.proofs.PlacedLaws.{slot_at}
use Rattle.vc_compile_meant.proofs.ColumnLaws.{found_passes}
use Rattle.vc_compile_meant.proofs.FaultLaws.{IsSound, each_false, each_here}
use Rattle.vc_compile_meant.proofs.MeaningLaws.{class_has}
use Rattle.vc_compile_meant.proofs.SortLaws.{var_sort}
use Rattle.vc_compile_origins.proofs.SumLaws.{no_sums, not_of_parts}
use Rattle.vc_compile_sorts.proofs.SumTrees.{IsSummed}

-- what is left of a list by a function that may give nothing
record IsMadeOf {X Y : Type 0} (f : X → Option Y) (xs : List X) (y : Y) : Type 0 where
  place : ℕ
  x : X
  there : slice_get xs place ≡ Some x
  made : f x ≡ Some y

made_of : {X Y : Type 0} (f : X → Option Y) (xs : List X) (n : ℕ) (y : Y) → slice_get (filter_map f xs) n ≡ Some y
    → IsMadeOf f xs y
made_of f [] n y e = absurd (cc)
made_of {X = X} {Y = Y} f (x ∷ xs) n y e = by (f x) refl n e (λ m g. made_of f xs m y g)
  where
    later : IsMadeOf f xs y → IsMadeOf f (x ∷ xs) y
    later found = record { place = suc found.place; x = found.x; there = found.there; made = found.made }

    by : (o : Option Y) → f x ≡ o → (n : ℕ) → slice_get (cons_option o (filter_map f xs)) n ≡ Some y
        → ((m : ℕ) → slice_get (filter_map f xs) m ≡ Some y → IsMadeOf f xs y) → IsMadeOf f (x ∷ xs) y
    by None is n e more = later (more n e)
    by (Some z) is zero e more = let same : z ≡ y = cc in record {
      place = zero;
      x = x;
      there = refl;
      made = is
          ∙ ap Some same;
    }
    by (Some z) is (suc n) e more = later (more n e)

-- the class of a component that is an object
abbrev class_in_component : Model → Component → Option ℕ
class_in_component model (components.Object o) = class_of model (Some o)
class_in_component model (components.Plain material) = None

component_same : (model : Model) (item : BillItem)
    → component_class model item ≡ class_in_component model item.component
component_same model item = by item.component refl
  where
    by : (c : Component) → item.component ≡ c → component_class model item ≡ class_in_component model item.component
    by (components.Object o) e = rw e refl
    by (components.Plain material) e = rw e refl

component_object : (model : Model) (c : Component) (class : ℕ) → class_in_component model c ≡ Some class
    → (o : ℕ) × (object_in c ≡ Some o) × (class_of model (Some o) ≡ Some class)
component_object model (components.Object o) class e = (o, refl, e)
component_object model (components.Plain material) class e = absurd (cc)

bill_classes : (model : Model) (o : Option Object)
    → classes_of_bill model o ≡ filter_map (component_class model) (bill_in o)
bill_classes model None = refl
bill_classes model (Some object) = refl

-- what a class has of this name is the characteristic of the name
member_named : (model : Model) (name : List ℕ) (class : Option ℕ) (c : ℕ) → member_of model name class ≡ Some c
    → characteristic_named model name ≡ Some c
member_named model name None c e = absurd (cc)
member_named model name (Some k) c e = by (slice_get model.classes k) (characteristic_named model name) refl e
  where
    by : (class : Option Class) (o : Option ℕ) → characteristic_named model name ≡ o → member_in class o ≡ Some c
        → characteristic_named model name ≡ Some c
    by class None is f = absurd (cc)
    by None (Some d) is f = absurd (cc)
    by (Some class) (Some d) is f =
        is ∙ ap Some (sym (eqb-true c d (found_passes (λ member. member == d) class.members c f)))

some_is : (o : Option ℕ) → is_some o ≡ true → (c : ℕ) × (o ≡ Some c)
some_is None h = absurd (cc)
some_is (Some c) h = (c, refl)

-- a characteristic that is no text has no sets
single_values : (v : Values) → is_text (Some (sort_of_values v)) ≡ false → are_multiple v ≡ false
single_values (values.Texts size multiple listed) h = absurd (cc)
single_values (values.Numbers decimals unit listed) h = refl

single_in : (o : Option Characteristic) → is_text (sort_in o) ≡ false → multiple_in o ≡ false
single_in None h = refl
single_in (Some x) h = single_values x.values h

-- a slot below, whose class has the characteristic
record IsBelow (model : Model) (i : ℕ) (o : ℕ) : Type 0 where
  place : ℕ
  slot : Slot
  there : slice_get (slots_of model) place ≡ Some slot
  above : is_number i slot.parent ≡ true
  object : slot.object ≡ o

slot_below : (model : Model) → KeepsParts model → (i : ℕ) (slot : Slot) → slice_get (slots_of model) i ≡ Some slot
    → (k : ℕ) (item : BillItem)
    (o : ℕ) → slice_get (bill_of model slot.object) k ≡ Some item → object_in item.component ≡ Some o
    → IsBelow model i o
slot_below model keeps i slot there k item o listed is =
    let stand
    = made_from (slot_of model (standings_of model)) (standings_of model) (slots_of model) refl i slot there in
    let s = stand.0 in
    let object : s.object ≡ slot.object = ap (λ x. x.object) stand.2 in
    let own : slice_get (bill_of model s.object) k ≡ Some item = ap (λ x. slice_get (bill_of model x) k) object
    ∙ listed in
    let found = some_there (is_for i k) (standings_of model) (parts_at model keeps i s stand.1 k item o own is) in
    let below = found.1 in
    let same : Some o ≡ Some below.object
    = sym is ∙ object_is model i k s item stand.1 own found.0 below found.2 found.3 in
    let one : o ≡ below.object = cc in
    record {
      place = found.0;
      slot = slot_of model (standings_of model) below;
      there = slot_at model found.0 below found.2;
      above = (and_parts (is_number i below.parent) (below.item == k) found.3).0;
      object = sym one;
    }

-- a number of a part
part_number : (model : Model) (tables : List VariantTable) (plan : Plan) → IsPlanOf model tables plan → HasLists plan
    → (i : ℕ) (o : ℕ)
    → IsBelow model i o → (c : ℕ) → list_any (λ d. c == d) (members_of model o) ≡ true
    → is_text (sort_of_characteristic model c) ≡ false
    → list_any (is_part_number plan i c) plan.vars ≡ true
part_number model tables plan is lists i o below c member plain =
    let single : is_multiple model c ≡ false = single_in (slice_get model.characteristics c) plain in
    let found = var_found model below.place below.slot below.there c
    (ap (λ k. list_any (λ d. c == d) (members_of model k)) below.object ∙ member) single in
    let x = found.0 in
    let v = var_number (vars_of model (slots_of model)) (0 + below.place) c in
    let here : slice_get plan.vars v ≡ Some x = ap (λ xs. slice_get xs v) is.vars ∙ found.1 in
    let sort = var_sort model tables plan is lists v x here in
    let number : has_numbers (slice_get plan.domains x.domain) ≡ true =
    sym (ap (λ e. has_numbers (domains.domain_of plan e)) here) ∙ sort.numbers
    ∙ a_number (sorts.is_number (sort_of_characteristic model x.characteristic))
    (sym sort.one ∙ ap (λ d. is_text (sort_of_characteristic model d)) found.3 ∙ plain) in
    let above : is_number i (parent_in (slice_get plan.slots x.slot)) ≡ true =
    ap (λ ss. is_number i (parent_in (slice_get ss x.slot))) is.slots
    ∙ ap (λ k. is_number i (parent_in (slice_get (slots_of model) k))) (found.2 ∙ no_front below.place)
    ∙ ap (λ s. is_number i (parent_in s)) below.there ∙ below.above in
    any_there (is_part_number plan i c) plan.vars v x here
    (and_from (x.characteristic == c) (is_number i (parent_in (slice_get plan.slots x.slot)) && has_numbers
    (slice_get plan.domains x.domain))
    (eq-eqb x.characteristic c found.3)
    (and_from (is_number i (parent_in (slice_get plan.slots x.slot)))
    (has_numbers (slice_get plan.domains x.domain)) above number))
  where
    no_front : (n : ℕ) → 0 + n ≡ n
    no_front n = omega arith

    a_number : (b : Bool) → not b ≡ false → b ≡ true
    a_number true h = refl
    a_number false h = absurd (cc)

-- a characteristic that the class of a part has is a number of it
class_summed : (model : Model) (tables : List VariantTable) (plan : Plan) → IsPlanOf model tables plan → HasLists plan
    → (i : ℕ)
    (name : List ℕ) (class o : ℕ) → class_of model (Some o) ≡ Some class → IsBelow model i o
    → is_some (member_of model name (Some class)) ≡ true
    → is_text (sort_meant model (known (member_of model name (Some class)))) ≡ false
    → list_any (is_part_number plan i (number_or_zero (characteristic_named model name))) plan.vars ≡ true
class_summed model tables plan is lists i name class o of below some plain =
    let member = some_is (member_of model name (Some class)) some in
    let c = member.0 in
    ap (λ n. list_any (is_part_number plan i (number_or_zero n)) plan.vars)
    (member_named model name (Some class) c member.1)
    ∙ part_number model tables plan is lists i o below c
    (ap (λ k. list_any (λ d. c == d) (members_if model k)) of ∙ class_has model name (Some class) c member.1)
    (sym (ap (λ m. is_text (sort_meant model (known m))) member.1) ∙ plain)

-- a name that is summed without a fault
name_summed : (model : Model) (tables : List VariantTable) (plan : Plan) → IsPlanOf model tables plan → KeepsParts model
    → HasLists plan
    → (i : ℕ) (slot : Slot) → slice_get (slots_of model) i ≡ Some slot → (name : NameLeaf)
    → is_of_no_part (procedure_site (layout_of model) i slot).setting name ≡ false
    → sums_texts (procedure_site (layout_of model) i slot).setting name ≡ false
    → IsSummed plan (layout_of model) (procedure_site (layout_of model) i slot) name
name_summed model tables plan is keeps lists i slot there name some numbers =
    let classes = component_classes (procedure_site (layout_of model) i slot).setting in
    let Text : ℕ → Bool = λ class. is_text (sort_meant model (known (member_of model name.name (Some class)))) in
    let found = some_there (λ class. is_some (member_of model name.name (Some class))) classes
    (not-false (list_any (λ class. is_some (member_of model name.name (Some class))) classes) some) in
    let class = found.1 in
    let plain
    = each_here (λ class. Text class ≡ false) classes found.0 class (each_false Text classes numbers) found.2 in
    let made = made_of (component_class model) (bill_of model slot.object) found.0 class
    (ap (λ l. slice_get l found.0) (sym (bill_classes model (slice_get model.objects slot.object))) ∙ found.2) in
    let object = component_object model made.x.component class (sym (component_same model made.x) ∙ made.made) in
    class_summed model tables plan is lists i name.name class object.0 object.2
    (slot_below model keeps i slot there made.place made.x object.0 made.there object.1) found.3 plain

pub slot_summed : (model : Model) (tables : List VariantTable) (plan : Plan) → IsPlanOf model tables plan
    → KeepsParts model → HasLists plan
    → (i : ℕ) (slot : Slot) → slice_get (slots_of model) i ≡ Some slot → (place : At) (tree : Dependency)
    → (is_procedure tree ≡ true → place ≡ at.Procedure) → IsSound (site_at (layout_of model) i slot place).setting tree
    → Each (IsSummed plan (layout_of model) (site_at (layout_of model) i slot place)) (summed_names tree)
slot_summed model tables plan is keeps lists i slot there place tree acts sound = by (is_procedure tree) refl
  where
    here : (a : At) → a ≡ at.Procedure → IsSound (site_at (layout_of model) i slot a).setting tree
        → Each (IsSummed plan (layout_of model) (site_at (layout_of model) i slot a)) (summed_names tree)
    here a same h =
        subst (λ a. Each (IsSummed plan (layout_of model) (site_at (layout_of model) i slot a)) (summed_names tree))
        (sym same)
        (let setting = (procedure_site (layout_of model) i slot).setting in
        each_more (λ name. (is_of_no_part setting name ≡ false) × (sums_texts setting name ≡ false))
        (IsSummed plan (layout_of model) (procedure_site (layout_of model) i slot))
        (λ name k. name_summed model tables plan is keeps lists i slot there name k.0 k.1) (summed_names tree)
        (not_of_parts setting tree (subst (λ a. IsSound (site_at (layout_of model) i slot a).setting tree) same h)))

    by : (b : Bool) → is_procedure tree ≡ b
        → Each (IsSummed plan (layout_of model) (site_at (layout_of model) i slot place)) (summed_names tree)
    by true e = here place (acts e) sound
    by false e =
        no_sums (IsSummed plan (layout_of model) (site_at (layout_of model) i slot place)) tree
        (sym (ap (λ b. not b && list_any has_sum (terms_in tree)) e) ∙ sound.sums)
