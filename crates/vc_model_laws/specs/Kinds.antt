-- What a model keeps of what its numbers stand for: what is used at a place is of a kind that may be used there.
use Rattle.std.specs.Prelude.{◌≡◌, ℕ, Bool, true, false, not, ◌||◌, List, slice_get, Option, None, Some}
use Rattle.std.specs.List.{list_all}
use Rattle.vc_syntax_tree.specs.Trees.{Dependency, Precondition, Selection, Procedure, Constrains}
use Rattle.vc_model_parts.specs.declared.parts.Characteristic.{Characteristic}
use Rattle.vc_model_parts.specs.declared.parts.Values.{Values}
use Rattle.vc_model_parts.specs.declared.parts.Values.TheVariants.{Texts, Numbers}
use Rattle.vc_model_drafts.specs.Seen.{SeenDependency, SeenModel}
use Rattle.vc_model_laws.specs.Lists.{is_multiple}

-- the kinds of dependencies
abbrev pub is_precondition : Dependency → Bool
is_precondition (Precondition condition) = true
is_precondition tree = false

abbrev pub is_selection : Dependency → Bool
is_selection (Selection condition) = true
is_selection tree = false

abbrev pub is_procedure : Dependency → Bool
is_procedure (Procedure statements) = true
is_procedure tree = false

abbrev pub is_constraint : Dependency → Bool
is_constraint (Constrains constraint) = true
is_constraint tree = false

abbrev pub is_for_value : Dependency → Bool
is_for_value tree = is_precondition tree || is_procedure tree

abbrev pub is_for_characteristic : Dependency → Bool
is_for_characteristic tree = is_for_value tree || is_selection tree

-- no dependency is a term
abbrev pub is_dependency : Dependency → Bool
is_dependency tree = is_for_characteristic tree || is_constraint tree

-- whether a dependency is there and passes a test, and whether all that are used do
abbrev pub is_used_as : (Dependency → Bool) → Option SeenDependency → Bool
is_used_as test None = false
is_used_as test (Some dependency) = test dependency.tree

abbrev pub are_used_as : SeenModel → (Dependency → Bool) → List ℕ → Bool
are_used_as model test uses = list_all (λ number. is_used_as test (slice_get model.dependencies number)) uses

abbrev pub are_values_used_as : SeenModel → (Dependency → Bool) → Values → Bool
are_values_used_as model test (Texts length multiple values) =
    list_all (λ value. are_used_as model test value.uses) values
are_values_used_as model test (Numbers decimals unit values) =
    list_all (λ value. are_used_as model test value.uses) values

-- whether a characteristic is there and has one value at most
abbrev pub is_single : Option Characteristic → Bool
is_single None = false
is_single (Some characteristic) = not (is_multiple characteristic.values)

pub record KeepsKinds (model : SeenModel) : Type 0 where
  pub dependencies : list_all (λ dependency. is_dependency dependency.tree) model.dependencies ≡ true
  pub characteristics : list_all (λ characteristic. are_used_as model is_for_characteristic characteristic.uses)
      model.characteristics ≡ true
  pub values : list_all (λ characteristic. are_values_used_as model is_for_value characteristic.values)
      model.characteristics ≡ true
  pub constraints : list_all (λ net. are_used_as model is_constraint net.constraints) model.nets ≡ true
  pub procedures : list_all (λ object. are_used_as model is_procedure object.procedures) model.objects ≡ true
  pub items : list_all (λ object. list_all (λ item. are_used_as model is_selection item.uses) object.bill)
      model.objects ≡ true
  pub operations : list_all (λ object. list_all (λ operation. are_used_as model is_selection operation.uses)
      object.operations) model.objects ≡ true
  pub columns : list_all (λ table. list_all
      (λ column. is_single (slice_get model.characteristics column.characteristic)) table.columns) model.tables ≡ true
