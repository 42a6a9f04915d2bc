-- Which constraints are active, and which dependencies are used: those that stand at the object of some slot.
use Rattle.std.specs.Prelude.{ℕ, Bool, ◌||◌, ◌==◌, List, [], ◌++◌, length, flat_map, slice_get, Option, None, Some}
use Rattle.std.specs.List.{filter, list_any}
use Rattle.vc_model_parts.specs.declared.parts.Characteristic.{Characteristic}
use Rattle.vc_model_parts.specs.declared.parts.Model.{Model}
use Rattle.vc_model_parts.specs.declared.parts.Net.{Net}
use Rattle.vc_model_parts.specs.declared.parts.Object.{Object}
use Rattle.vc_model_parts.specs.declared.parts.Values.{Values}
use Rattle.vc_model_parts.specs.declared.parts.Values.TheVariants as values
use Rattle.vc_plan.specs.Domains.{numbers_below}
use Rattle.vc_plan.specs.declared.plans.Slot.{Slot}
use Rattle.vc_types.specs.Looking.{class_in}
use Rattle.vc_compile_plan.specs.Layouts.{Layout}
use Rattle.vc_compile_plan.specs.Variables.{members_if}

-- whether a number is one of these
abbrev pub is_one_of : List ℕ → ℕ → Bool
is_one_of numbers n = list_any (λ m. m == n) numbers

-- the objects at slots
abbrev pub object_of_slot : Layout → Slot → Option Object
object_of_slot layout slot = slice_get layout.model.objects slot.object

-- the constraints of an object's nets
abbrev pub constraints_in : Option Net → List ℕ
constraints_in None = []
constraints_in (Some net) = net.constraints

abbrev pub net_constraints : Model → Option Object → List ℕ
net_constraints model None = []
net_constraints model (Some object) = flat_map (λ net. constraints_in (slice_get model.nets net)) object.nets

-- the constraints of the nets of all objects that have a slot, each once, in the order of the model
abbrev pub is_active : Layout → ℕ → Bool
is_active layout d =
    list_any (λ slot. is_one_of (net_constraints layout.model (object_of_slot layout slot)) d) layout.slots

abbrev pub active_constraints : Layout → List ℕ
active_constraints layout = filter (is_active layout) (numbers_below (length layout.model.dependencies))

-- what stands at a characteristic and its values
abbrev pub uses_of_values : Values → List ℕ
uses_of_values (values.Texts length multiple listed) = flat_map (λ value. value.uses) listed
uses_of_values (values.Numbers decimals unit listed) = flat_map (λ value. value.uses) listed

abbrev pub uses_of_characteristic : Option Characteristic → List ℕ
uses_of_characteristic None = []
uses_of_characteristic (Some c) = c.uses ++ uses_of_values c.values

-- what stands at an object: at its class, in its profile, at its lines and operations
abbrev pub uses_of_members : Model → Option Object → List ℕ
uses_of_members model object =
    flat_map (λ c. uses_of_characteristic (slice_get model.characteristics c)) (members_if model (class_in object))

abbrev pub uses_of_object : Model → Option Object → List ℕ
uses_of_object model None = []
uses_of_object model (Some object) =
    (object.procedures ++ uses_of_members model (Some object))
    ++ (flat_map (λ line. line.uses) object.bill ++ flat_map (λ operation. operation.uses) object.operations)

-- whether a dependency is used
abbrev pub stands_somewhere : Layout → ℕ → Bool
stands_somewhere layout d =
    list_any (λ slot. is_one_of (uses_of_object layout.model (object_of_slot layout slot)) d) layout.slots

abbrev pub is_used : Layout → ℕ → Bool
is_used layout d = is_active layout d || stands_somewhere layout d

abbrev pub used_dependencies : Layout → List ℕ
used_dependencies layout = filter (is_used layout) (numbers_below (length layout.model.dependencies))
