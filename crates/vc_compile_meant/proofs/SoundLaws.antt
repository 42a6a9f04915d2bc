-- What stands at a slot's object is typed there without a fault.
use Rattle.std.proofs.Common.{◌≡◌, ℕ, Bool, List, [], ◌∷◌, ◌++◌, flat_map, Option, Some, None, refl, sym, ap, ◌∙◌}
use Rattle.std.proofs.Common.{subst}
use Rattle.std.specs.Prelude.{option_map, slice_get}
use Rattle.std.specs.List.{cons_option}
use Rattle.vc_model_parts.specs.declared.parts.BillItem.{BillItem}
use Rattle.vc_model_parts.specs.declared.parts.Model.{Model}
use Rattle.vc_model_parts.specs.declared.parts.Object.{Object}
use Rattle.vc_model_parts.specs.declared.parts.Operation.{Operation}
use Rattle.vc_model_parts.specs.declared.parts.Values.{Values}
use Rattle.vc_model_parts.specs.declared.parts.Values.TheVariants as values
use Rattle.vc_plan.specs.declared.plans.Slot.{Slot}
use Rattle.vc_syntax_tree.specs.Trees.{Condition, Counts, Dependency, term_of}
use Rattle.vc_types.specs.Faults.{fault_of}
use Rattle.vc_types.specs.Looking.{class_in}
use Rattle.vc_types.specs.declared.place.At.TheVariants as at
use Rattle.vc_types.specs.declared.place.Place.{Place}
use Rattle.vc_compile_plan.specs.Layouts.{layout_of, tree_of}
use Rattle.vc_compile_plan.specs.Places.{asked_by, place_at}
use Rattle.vc_compile_plan.specs.Procedures.{profile_in}
use Rattle.vc_compile_plan.specs.Refusals as refusals
use Rattle.vc_compile_plan.specs.Refusals.{at_of, type_faults, typed_at, typed_constraints, typed_line, typed_object}
use Rattle.vc_compile_plan.specs.Refusals.{typed_operation, typed_slot}
use Rattle.vc_compile_plan.specs.Shown.{entries_of, entry_of_numbers, entry_of_text, is_configurable, operations_in}
use Rattle.vc_compile_plan.specs.Slots.{bill_in, slots_of}
use Rattle.vc_compile_plan.specs.Uses.{uses_of_characteristic, uses_of_members, uses_of_values}
use Rattle.vc_compile_plan.specs.Variables.{members_if, members_of}
use Rattle.vc_compile_valid.proofs.EachLaws.{Each, each_mapped, each_more}
use Rattle.vc_compile_meant.proofs.FaultLaws.{HasNone, IsTypedAt, all_without, each_here, each_split, each_unflat}
use Rattle.vc_compile_meant.proofs.FaultLaws.{uses_typed}

-- at the place of each dependency at a slot
abbrev pub own_place : Model → Slot → Dependency → Place
own_place model slot tree = place_at (layout_of model) slot (at_of tree)

abbrev pub line_place : Model → Slot → Bool → Place
line_place model slot configurable = place_at (layout_of model) slot (at.Line configurable)

abbrev pub operation_place : Model → Slot → Place
operation_place model slot = place_at (layout_of model) slot at.Operation

-- a line, and an operation, with what is used there
pub record IsSoundLine (model : Model) (slot : Slot) (item : BillItem) : Type 0 where
  pub quantity : fault_of model (line_place model slot (is_configurable item.component))
      (Counts (term_of item.quantity.value)) ≡ None
  pub uses : Each (IsTypedAt model (λ tree. line_place model slot (is_configurable item.component))) item.uses

pub record IsSoundOperation (model : Model) (slot : Slot) (operation : Operation) : Type 0 where
  pub time : fault_of model (operation_place model slot) (Counts (term_of operation.time.value)) ≡ None
  pub uses : Each (IsTypedAt model (λ tree. operation_place model slot)) operation.uses

pub record IsSoundSlot (model : Model) (slot : Slot) : Type 0 where
  pub profile : Each (IsTypedAt model (own_place model slot)) (profile_in (slice_get model.objects slot.object))
  pub members : Each (λ c. Each (IsTypedAt model (own_place model slot))
      (uses_of_characteristic (slice_get model.characteristics c)))
      (members_of model slot.object)
  pub lines : Each (IsSoundLine model slot) (bill_in (slice_get model.objects slot.object))
  pub operations : Each (IsSoundOperation model slot) (operations_in (slice_get model.objects slot.object))

line_sound : (model : Model) (slot : Slot) (item : BillItem)
    → Each (HasNone model) (typed_line (layout_of model) slot item)
    → IsSoundLine model slot item
line_sound model slot item h = record {
  quantity = h.0;
  uses = uses_typed model (λ tree. line_place model slot (is_configurable item.component)) item.uses h.1;
}

operation_sound : (model : Model) (slot : Slot) (operation : Operation)
    → Each (HasNone model) (typed_operation (layout_of model) slot operation) → IsSoundOperation model slot operation
operation_sound model slot operation h = record {
  time = h.0;
  uses = uses_typed model (λ tree. operation_place model slot) operation.uses h.1;
}

slot_sound : (model : Model) (slot : Slot) → Each (HasNone model) (typed_slot (layout_of model) slot)
    → IsSoundSlot model slot
slot_sound model slot h = by (slice_get model.objects slot.object) refl h
  where
    members_same : (o : Option Object) → slice_get model.objects slot.object ≡ o
        → members_of model slot.object ≡ members_if model (class_in o)
    members_same o e = ap (λ x. members_if model (class_in x)) e

    by : (o : Option Object) → slice_get model.objects slot.object ≡ o
        → Each (HasNone model) (typed_object (layout_of model) slot o)
        → IsSoundSlot model slot
    by None e k = record {
      profile = subst (λ x. Each (IsTypedAt model (own_place model slot)) (profile_in x)) (sym e) tt;
      members = subst (λ cs. Each
          (λ c. Each (IsTypedAt model (own_place model slot))
          (uses_of_characteristic (slice_get model.characteristics c))) cs)
          (sym (members_same None e)) tt;
      lines = subst (λ x. Each (IsSoundLine model slot) (bill_in x)) (sym e) tt;
      operations = subst (λ x. Each (IsSoundOperation model slot) (operations_in x)) (sym e) tt;
    }
    by (Some object) e k =
        let uses = object.procedures ++ uses_of_members model (Some object) in
        let front = each_split (HasNone model) (typed_at model (own_place model slot) uses)
        (flat_map (typed_line (layout_of model) slot) object.bill
        ++ flat_map (typed_operation (layout_of model) slot) object.operations) k in
        let own
        = each_split (IsTypedAt model (own_place model slot)) object.procedures
        (uses_of_members model (Some object))
        (uses_typed model (own_place model slot) uses front.0) in
        let back = each_split (HasNone model) (flat_map (typed_line (layout_of model) slot) object.bill)
        (flat_map (typed_operation (layout_of model) slot) object.operations) front.1 in
        record {
          profile = subst (λ x. Each (IsTypedAt model (own_place model slot)) (profile_in x)) (sym e) own.0;
          members = subst (λ cs. Each
              (λ c. Each (IsTypedAt model (own_place model slot))
              (uses_of_characteristic (slice_get model.characteristics c))) cs)
              (sym (members_same (Some object) e))
              (each_unflat (IsTypedAt model (own_place model slot))
              (λ c. uses_of_characteristic (slice_get model.characteristics c))
              (members_if model (class_in (Some object))) own.1);
          lines = subst (λ x. Each (IsSoundLine model slot) (bill_in x)) (sym e)
              (each_more (λ item. Each (HasNone model) (typed_line (layout_of model) slot item))
              (IsSoundLine model slot) (line_sound model slot)
              object.bill (each_unflat (HasNone model) (typed_line (layout_of model) slot) object.bill back.0));
          operations = subst (λ x. Each (IsSoundOperation model slot) (operations_in x)) (sym e)
              (each_more (λ x. Each (HasNone model) (typed_operation (layout_of model) slot x))
              (IsSoundOperation model slot)
              (operation_sound model slot) object.operations
              (each_unflat (HasNone model) (typed_operation (layout_of model) slot) object.operations back.1));
        }

pub sound_at : (model : Model) → refusals.first_of (type_faults (layout_of model)) ≡ None → (k : ℕ) (slot : Slot)
    → slice_get (slots_of model) k ≡ Some slot → IsSoundSlot model slot
sound_at model h k slot e =
    let both
    = each_split (HasNone model) (typed_constraints model)
    (flat_map (typed_slot (layout_of model)) (slots_of model))
    (all_without (layout_of model) h) in
    slot_sound model slot
    (each_here (λ s. Each (HasNone model) (typed_slot (layout_of model) s)) (slots_of model) k slot
    (each_unflat (HasNone model) (typed_slot (layout_of model)) (slots_of model) both.1) e)

pub constraints_sound : (model : Model) → refusals.first_of (type_faults (layout_of model)) ≡ None
    → Each (HasNone model) (typed_constraints model)
constraints_sound model h =
    (each_split (HasNone model) (typed_constraints model) (flat_map (typed_slot (layout_of model)) (slots_of model))
    (all_without (layout_of model) h)).0

-- what is used at a characteristic is used at it itself or at a value
pub entry_uses : (P : ℕ → Type 0) (v : Values) → Each P (uses_of_values v) → Each (λ e. Each P e.uses) (entries_of v)
entry_uses P (values.Texts size multiple listed) h =
    each_mapped (λ e. Each P e.uses) entry_of_text listed (each_unflat P (λ value. value.uses) listed h)
entry_uses P (values.Numbers decimals unit listed) h =
    each_mapped (λ e. Each P e.uses) entry_of_numbers listed (each_unflat P (λ value. value.uses) listed h)

-- what is asked by uses that are typed is typed
pub asked_typed : (condition_in : Option Dependency → Option Condition) (made : Condition → Dependency)
    → ((tree : Dependency) (c : Condition) → condition_in (Some tree) ≡ Some c → tree ≡ made c)
    → condition_in None ≡ None
    → (model : Model) (place : Dependency → Place) (uses : List ℕ) → Each (IsTypedAt model place) uses
    → Each (λ a. fault_of model (place (made a.condition)) (made a.condition) ≡ None) (asked_by condition_in model uses)
asked_typed condition_in made of none model place [] h = tt
asked_typed condition_in made of none model place (d ∷ uses) h =
    by (tree_of model d) refl h.0 (condition_in (tree_of model d)) refl
    (asked_typed condition_in made of none model place uses h.1)
  where
    by : (tree : Option Dependency) → tree_of model d ≡ tree → IsTypedAt model place d → (o : Option Condition)
        → condition_in (tree_of model d) ≡ o
        → Each (λ a. fault_of model (place (made a.condition)) (made a.condition) ≡ None)
        (asked_by condition_in model uses)
        → Each (λ a. fault_of model (place (made a.condition)) (made a.condition) ≡ None)
        (cons_option (option_map (λ condition. record { dependency = d; condition = condition }) o)
        (asked_by condition_in model uses))
    by tree e typed None f more = more
    by None e typed (Some c) f more = absurd (let gone : None ≡ Some c = sym none ∙ ap condition_in (sym e) ∙ f in cc)
    by (Some tree) e typed (Some c) f more =
        let same = of tree c (ap condition_in (sym e) ∙ f) in
        (subst (λ t. fault_of model (place t) t ≡ None) same (typed tree e), more)
