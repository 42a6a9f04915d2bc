-- What a model keeps of its numbers: each is that of a thing that the model has.
use Rattle.std.specs.Prelude.{◌≡◌, ℕ, Bool, true, nat_lt, List, length}
use Rattle.std.specs.List.{list_all}
use Rattle.vc_model_parts.specs.declared.parts.Component.{Component}
use Rattle.vc_model_parts.specs.declared.parts.Component.TheVariants as components
use Rattle.vc_model_parts.specs.declared.parts.Values.{Values}
use Rattle.vc_model_parts.specs.declared.parts.Values.TheVariants.{Texts, Numbers}
use Rattle.vc_model_drafts.specs.Seen.{SeenModel}

-- whether all numbers are below a count
abbrev pub are_below : ℕ → List ℕ → Bool
are_below count numbers = list_all (λ number. nat_lt number count) numbers

-- whether the texts of values are there, and what is used at them
abbrev pub are_texts_there : ℕ → Values → Bool
are_texts_there count (Texts length' multiple values) = list_all (λ value. nat_lt value.text count) values
are_texts_there count (Numbers decimals unit values) = true

abbrev pub have_uses_there : ℕ → Values → Bool
have_uses_there count (Texts length' multiple values) = list_all (λ value. are_below count value.uses) values
have_uses_there count (Numbers decimals unit values) = list_all (λ value. are_below count value.uses) values

-- whether the object that a line of a bill has is there
abbrev pub is_component_there : ℕ → Component → Bool
is_component_there count (components.Object object) = nat_lt object count
is_component_there count (components.Plain material) = true

pub record KeepsIndices (model : SeenModel) : Type 0 where
  pub texts : list_all (λ characteristic. are_texts_there (length model.texts) characteristic.values)
      model.characteristics ≡ true
  pub members : list_all (λ class. are_below (length model.characteristics) class.members) model.classes ≡ true
  pub columns : list_all (λ table. list_all (λ column. nat_lt column.characteristic (length model.characteristics))
      table.columns) model.tables ≡ true
  pub classes : list_all (λ object. nat_lt object.class (length model.classes)) model.objects ≡ true
  pub components : list_all (λ object. list_all (λ item. is_component_there (length model.objects) item.component)
      object.bill) model.objects ≡ true
  pub root : nat_lt model.root (length model.objects) ≡ true
  pub uses : list_all (λ characteristic. are_below (length model.dependencies) characteristic.uses)
      model.characteristics ≡ true
  pub value_uses : list_all (λ characteristic. have_uses_there (length model.dependencies) characteristic.values)
      model.characteristics ≡ true
  pub constraints : list_all (λ net. are_below (length model.dependencies) net.constraints) model.nets ≡ true
  pub nets : list_all (λ object. are_below (length model.nets) object.nets) model.objects ≡ true
  pub procedures : list_all (λ object. are_below (length model.dependencies) object.procedures) model.objects ≡ true
  pub item_uses : list_all (λ object. list_all (λ item. are_below (length model.dependencies) item.uses) object.bill)
      model.objects ≡ true
  pub operation_uses : list_all (λ object. list_all (λ operation. are_below (length model.dependencies) operation.uses)
      object.operations) model.objects ≡ true
