-- Where a dependency is typed: the model, the place, and the variables that it declares.
use Rattle.std.specs.Prelude.{ℕ, Bool, true, false, List, [], slice_get, Option, Some, None, filter_map, not, ◌&&◌}
use Rattle.vc_model_parts.specs.declared.parts.BillItem.{BillItem}
use Rattle.vc_model_parts.specs.declared.parts.Characteristic.{Characteristic}
use Rattle.vc_model_parts.specs.declared.parts.Component.{Component}
use Rattle.vc_model_parts.specs.declared.parts.Component.TheVariants as components
use Rattle.vc_model_parts.specs.declared.parts.Model.{Model}
use Rattle.vc_model_parts.specs.declared.parts.Object.{Object}
use Rattle.vc_model_parts.specs.declared.parts.Values.{Values}
use Rattle.vc_model_parts.specs.declared.parts.Values.TheVariants as values
use Rattle.vc_syntax_tree.specs.declared.Operand.{Operand as Name}
use Rattle.vc_syntax_tree.specs.Trees.{Dependency, Constrains}
use Rattle.vc_types.specs.Looking.{class_of}
use Rattle.vc_types.specs.Meanings.{Variable, variables_of, meaning_of}
use Rattle.vc_types.specs.declared.meaning.Meaning.{Meaning}
use Rattle.vc_types.specs.declared.meaning.Meaning.TheVariants as meanings
use Rattle.vc_types.specs.declared.meaning.Sort.{Sort}
use Rattle.vc_types.specs.declared.meaning.Sort.TheVariants.{Texts as of_texts, Numbers as of_numbers}
use Rattle.vc_types.specs.declared.place.At.{At}
use Rattle.vc_types.specs.declared.place.At.TheVariants as at
use Rattle.vc_types.specs.declared.place.Place.{Place}

pub record Setting : Type 0 where
  pub model : Model
  pub place : Place
  pub variables : List Variable

abbrev pub variables_in : Model → Dependency → List Variable
variables_in model (Constrains constraint) = variables_of model constraint.objects
variables_in model dependency = []

abbrev pub setting_of : Model → Place → Dependency → Setting
setting_of model place dependency = record { model = model; place = place; variables = variables_in model dependency }

abbrev pub meaning : Setting → Name → Meaning
meaning setting operand = meaning_of setting.model setting.place setting.variables operand

abbrev pub is_constraint : At → Bool
is_constraint at.Constraint = true
is_constraint at.Characteristic = false
is_constraint at.Procedure = false
is_constraint (at.Line configurable) = false
is_constraint at.Operation = false

abbrev pub is_line : At → Bool
is_line at.Constraint = false
is_line at.Characteristic = false
is_line at.Procedure = false
is_line (at.Line configurable) = true
is_line at.Operation = false

-- where `$SELF` is an instance, whose parts can be summed: not in a constraint, and not in a line
abbrev pub has_instance : At → Bool
has_instance at = not (is_constraint at) && not (is_line at)

-- texts or numbers
abbrev pub sort_of_values : Values → Sort
sort_of_values (values.Texts length multiple listed) = of_texts
sort_of_values (values.Numbers decimals unit listed) = of_numbers

abbrev pub sort_in : Option Characteristic → Option Sort
sort_in None = None
sort_in (Some c) = Some (sort_of_values c.values)

abbrev pub sort_of_characteristic : Model → ℕ → Option Sort
sort_of_characteristic model c = sort_in (slice_get model.characteristics c)

-- whether a characteristic has sets of texts
abbrev pub are_multiple : Values → Bool
are_multiple (values.Texts length multiple listed) = multiple
are_multiple (values.Numbers decimals unit listed) = false

abbrev pub multiple_in : Option Characteristic → Bool
multiple_in None = false
multiple_in (Some c) = are_multiple c.values

abbrev pub is_multiple : Model → ℕ → Bool
is_multiple model c = multiple_in (slice_get model.characteristics c)

-- what a meaning is: only a characteristic has a sort, and may have sets
abbrev pub sort_meant : Model → Meaning → Option Sort
sort_meant model (meanings.Characteristic c) = sort_of_characteristic model c
sort_meant model meaning = None

abbrev pub is_set : Model → Meaning → Bool
is_set model (meanings.Characteristic c) = is_multiple model c
is_set model meaning = false

-- the classes of the components of an object that are objects
abbrev pub component_class : Model → BillItem → Option ℕ
component_class model item = of_component item.component
  where
    of_component : Component → Option ℕ
    of_component (components.Object object) = class_of model (Some object)
    of_component (components.Plain material) = None

abbrev pub classes_of_bill : Model → Option Object → List ℕ
classes_of_bill model None = []
classes_of_bill model (Some object) = filter_map (component_class model) object.bill

abbrev pub component_classes : Setting → List ℕ
component_classes setting = classes_of_bill setting.model (slice_get setting.model.objects setting.place.object)
