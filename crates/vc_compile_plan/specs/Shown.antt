-- Preconditions, requirements, lines and operations of a model, with their conditions and terms as trees.
use Rattle.std.specs.Prelude.{ℕ, Bool, true, false, List, [], ◌++◌, map, flat_map, slice_get, Option, None, Some}
use Rattle.vc_model_parts.specs.declared.parts.BillItem.{BillItem}
use Rattle.vc_model_parts.specs.declared.parts.Characteristic.{Characteristic}
use Rattle.vc_model_parts.specs.declared.parts.Component.{Component}
use Rattle.vc_model_parts.specs.declared.parts.Component.TheVariants as components
use Rattle.vc_model_parts.specs.declared.parts.Model.{Model}
use Rattle.vc_model_parts.specs.declared.parts.NumberValue.{NumberValue}
use Rattle.vc_model_parts.specs.declared.parts.Object.{Object}
use Rattle.vc_model_parts.specs.declared.parts.Operation.{Operation}
use Rattle.vc_model_parts.specs.declared.parts.TextValue.{TextValue}
use Rattle.vc_model_parts.specs.declared.parts.Values.{Values}
use Rattle.vc_model_parts.specs.declared.parts.Values.TheVariants as values
use Rattle.vc_syntax_tree.specs.Trees.{term_of}
use Rattle.vc_types.specs.declared.place.At.TheVariants as at
use Rattle.vc_plan.specs.declared.conditions.Piece.{Piece}
use Rattle.vc_plan.specs.declared.conditions.Piece.TheVariants.{OneText, Stretch}
use Rattle.vc_plan.specs.declared.plans.Named.{Named}
use Rattle.vc_plan.specs.declared.plans.Slot.{Slot}
use Rattle.vc_compile_plan.specs.Conditions.{condition_at}
use Rattle.vc_compile_plan.specs.Layouts.{Layout}
use Rattle.vc_compile_plan.specs.Places.{Asked, preconditions_among, selections_among, characteristic_site}
use Rattle.vc_compile_plan.specs.Places.{operation_site, site_at}
use Rattle.vc_compile_plan.specs.Sites.{Site, named_at}
use Rattle.vc_compile_plan.specs.Slots.{bill_of}
use Rattle.vc_compile_plan.specs.Terms as compiled
use Rattle.vc_compile_plan.specs.Trees as plan
use Rattle.vc_compile_plan.specs.Variables.{by_slot, members_of}

-- a dependency with its condition where it stands
pub record Choice : Type 0 where
  pub dependency : ℕ
  pub condition : plan.Condition

abbrev pub choice_at : Layout → Site → Asked → Choice
choice_at layout site asked =
    record { dependency = asked.dependency; condition = condition_at layout site asked.condition }

-- a precondition, of a characteristic or of one of its values
pub record GuardDraft : Type 0 where
  pub at : Named
  pub value : Option Piece
  pub choice : Choice

-- a listed value with what is used there
pub record Entry : Type 0 where
  pub piece : Piece
  pub uses : List ℕ

abbrev pub entry_of_text : TextValue → Entry
entry_of_text value = record { piece = OneText value.text; uses = value.uses }

abbrev pub entry_of_numbers : NumberValue → Entry
entry_of_numbers value = record { piece = Stretch (record { low = value.low; high = value.high }); uses = value.uses }

abbrev pub entries_of : Values → List Entry
entries_of (values.Texts length multiple listed) = map entry_of_text listed
entries_of (values.Numbers decimals unit listed) = map entry_of_numbers listed

abbrev pub guards_among : Layout → Site → Named → Option Piece → List ℕ → List GuardDraft
guards_among layout site at value uses =
    map (λ asked. record { at = at; value = value; choice = choice_at layout site asked })
    (preconditions_among layout.model uses)

-- a characteristic's own preconditions before those of its values
abbrev pub guards_of : Layout → Site → Named → Option Characteristic → List GuardDraft
guards_of layout site at None = []
guards_of layout site at (Some c) =
    guards_among layout site at None c.uses
    ++ flat_map (λ entry. guards_among layout site at (Some entry.piece) entry.uses) (entries_of c.values)

abbrev pub guards_at : Layout → ℕ → Slot → List GuardDraft
guards_at layout i slot =
    flat_map (λ c. guards_of layout (characteristic_site layout i slot) (named_at layout i c)
    (slice_get layout.model.characteristics c))
    (members_of layout.model slot.object)

abbrev pub guard_drafts : Layout → List GuardDraft
guard_drafts layout = by_slot (guards_at layout) 0 layout.slots

-- a selection condition of a characteristic
pub record RequirementDraft : Type 0 where
  pub at : Named
  pub choice : Choice

abbrev pub requirements_of : Layout → Site → Named → Option Characteristic → List RequirementDraft
requirements_of layout site at None = []
requirements_of layout site at (Some c) =
    map (λ asked. record { at = at; choice = choice_at layout site asked }) (selections_among layout.model c.uses)

abbrev pub requirements_at : Layout → ℕ → Slot → List RequirementDraft
requirements_at layout i slot =
    flat_map (λ c. requirements_of layout (characteristic_site layout i slot) (named_at layout i c)
    (slice_get layout.model.characteristics c))
    (members_of layout.model slot.object)

abbrev pub requirement_drafts : Layout → List RequirementDraft
requirement_drafts layout = by_slot (requirements_at layout) 0 layout.slots

-- a line of a bill or an operation: its number in the object, its words, its quantity or time, and what it asks
pub record ItemDraft : Type 0 where
  pub slot : ℕ
  pub number : ℕ
  pub word : List ℕ
  pub unit : List ℕ
  pub term : plan.Term
  pub choices : List Choice

-- a line asks its owner's slot; what a configurable one asks stands in the rules of its slot
abbrev pub is_configurable : Component → Bool
is_configurable (components.Object o) = true
is_configurable (components.Plain material) = false

abbrev pub material_in : Option Object → List ℕ
material_in None = []
material_in (Some object) = object.material

abbrev pub material_of : Model → Component → List ℕ
material_of model (components.Object o) = material_in (slice_get model.objects o)
material_of model (components.Plain material) = material

abbrev pub line_choices : Layout → Site → Component → List ℕ → List Choice
line_choices layout site (components.Object o) uses = []
line_choices layout site (components.Plain material) uses =
    map (choice_at layout site) (selections_among layout.model uses)

abbrev pub line_at : Layout → ℕ → Slot → BillItem → ItemDraft
line_at layout i slot item =
    let site = site_at layout i slot (at.Line (is_configurable item.component)) in
    record {
      slot = i;
      number = item.item;
      word = material_of layout.model item.component;
      unit = item.unit;
      term = compiled.term_at layout site (term_of item.quantity.value);
      choices = line_choices layout site item.component item.uses;
    }

abbrev pub line_drafts : Layout → List ItemDraft
line_drafts layout = by_slot (λ i slot. map (line_at layout i slot) (bill_of layout.model slot.object)) 0 layout.slots

-- the operations of an object
abbrev pub operations_in : Option Object → List Operation
operations_in None = []
operations_in (Some object) = object.operations

abbrev pub operation_at : Layout → ℕ → Slot → Operation → ItemDraft
operation_at layout i slot operation =
    let site = operation_site layout i slot in
    record {
      slot = i;
      number = operation.number;
      word = operation.centre;
      unit = operation.unit;
      term = compiled.term_at layout site (term_of operation.time.value);
      choices = map (choice_at layout site) (selections_among layout.model operation.uses);
    }

abbrev pub operation_drafts : Layout → List ItemDraft
operation_drafts layout =
    by_slot (λ i slot. map (operation_at layout i slot) (operations_in (slice_get layout.model.objects slot.object))) 0
    layout.slots
