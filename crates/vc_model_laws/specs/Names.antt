-- What a model keeps of its words: they are spelled, and each name stands once.
use Rattle.std.specs.Prelude.{◌≡◌, ℕ, Bool, true, not, ◌&&◌, nat_lt, List, Option, None}
use Rattle.std.specs.List.{list_all}
use Rattle.vc_value.specs.Words.{same_bytes}
use Rattle.vc_model_lines.specs.WordSpellings.{is_reserved}
use Rattle.vc_model_parts.specs.declared.parts.Characteristic.{Characteristic}
use Rattle.vc_model_parts.specs.declared.parts.Component.{Component}
use Rattle.vc_model_parts.specs.declared.parts.Component.TheVariants as components
use Rattle.vc_model_parts.specs.declared.parts.Values.{Values}
use Rattle.vc_model_parts.specs.declared.parts.Values.TheVariants.{Texts, Numbers}
use Rattle.vc_model_drafts.specs.Seen.{SeenItem, SeenOperation, SeenModel}
use Rattle.vc_plan.specs.Orders.{are_apart}
use Rattle.vc_plan.specs.Spelling.{is_upper_name, is_material, is_unit}

-- the unit of a characteristic's numbers
abbrev pub unit_of : Values → Option (List ℕ)
unit_of (Texts length multiple values) = None
unit_of (Numbers decimals unit values) = unit

-- whether the words of a characteristic, of a line of a bill and of an operation are spelled
abbrev pub is_characteristic_spelled : Characteristic → Bool
is_characteristic_spelled c = is_upper_name c.name && (not (is_reserved c.name) && is_unit (unit_of c.values))

abbrev pub is_component_spelled : Component → Bool
is_component_spelled (components.Object object) = true
is_component_spelled (components.Plain material) = is_material material

abbrev pub is_item_spelled : SeenItem → Bool
is_item_spelled item = is_component_spelled item.component && is_material item.unit

abbrev pub is_operation_spelled : SeenOperation → Bool
is_operation_spelled operation = is_upper_name operation.centre && is_material operation.unit

-- names, materials and units are spelled, in upper case; of each kind a name stands once
pub record KeepsNames (model : SeenModel) : Type 0 where
  pub name : is_upper_name model.name ≡ true
  pub version : (nat_lt 0 model.version && nat_lt model.version 1_000_000) ≡ true
  pub characteristics : list_all is_characteristic_spelled model.characteristics ≡ true
  pub classes : list_all (λ class. is_upper_name class.name) model.classes ≡ true
  pub tables : list_all (λ table. is_upper_name table.name) model.tables ≡ true
  pub dependencies : list_all (λ dependency. is_upper_name dependency.name) model.dependencies ≡ true
  pub nets : list_all (λ net. is_upper_name net.name) model.nets ≡ true
  pub materials : list_all (λ object. is_material object.material) model.objects ≡ true
  pub items : list_all (λ object. list_all is_item_spelled object.bill) model.objects ≡ true
  pub operations : list_all (λ object. list_all is_operation_spelled object.operations) model.objects ≡ true
  pub characteristics_once : are_apart (λ a b. same_bytes a.name b.name) model.characteristics ≡ true
  pub texts_once : are_apart same_bytes model.texts ≡ true
  pub classes_once : are_apart (λ a b. same_bytes a.name b.name) model.classes ≡ true
  pub tables_once : are_apart (λ a b. same_bytes a.name b.name) model.tables ≡ true
  pub dependencies_once : are_apart (λ a b. same_bytes a.name b.name) model.dependencies ≡ true
  pub nets_once : are_apart (λ a b. same_bytes a.name b.name) model.nets ≡ true
  pub materials_once : are_apart (λ a b. same_bytes a.material b.material) model.objects ≡ true
