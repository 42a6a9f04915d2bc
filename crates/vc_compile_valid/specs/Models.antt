-- What of a model its plan rests on.
use Rattle.std.specs.Prelude.{◌≡◌, ℕ, Bool, true, false, not, nat_le, nat_lt, List, length, map, slice_get, Some}
use Rattle.std.specs.List.{list_all, list_any}
use Rattle.vc_value.specs.Words.{same_bytes}
use Rattle.vc_value.specs.declared.table_header.Domain.{Domain}
use Rattle.vc_value.specs.declared.table_header.Domain.TheVariants as domains
use Rattle.vc_model_parts.specs.Headers.{domain_of, grain_of}
use Rattle.vc_model_parts.specs.declared.parts.Characteristic.{Characteristic}
use Rattle.vc_model_parts.specs.declared.parts.Component.{Component}
use Rattle.vc_model_parts.specs.declared.parts.Component.TheVariants as components
use Rattle.vc_model_parts.specs.declared.parts.Model.{Model}
use Rattle.vc_model_parts.specs.declared.parts.Object.{Object}
use Rattle.vc_model_parts.specs.declared.parts.Values.{Values}
use Rattle.vc_model_parts.specs.declared.parts.Values.TheVariants.{Texts, Numbers}
use Rattle.vc_compile_plan.specs.Slots.{is_too_deep}

-- whether a plain component has the material of no object
abbrev pub is_plain : List Object → Component → Bool
is_plain objects (components.Object o) = true
is_plain objects (components.Plain material) = not (list_any (λ object. same_bytes object.material material) objects)

-- no line's material is an object's, but of a line that has the object; and there are no more levels of slots than may
-- be
pub record KeepsParts (model : Model) : Type 0 where
  pub plain : list_all (λ object. list_all (λ item. is_plain model.objects item.component) object.bill) model.objects
      ≡ true
  pub levels : is_too_deep model ≡ false

-- all values of a characteristic, how many there are, and whether each has few uses
abbrev pub all_values : Values → Domain
all_values (Texts length multiple values) = domains.Texts (map (λ value. value.text) values)
all_values (Numbers decimals unit values) = domains.Nums decimals (map grain_of values)

abbrev pub count_of : Values → ℕ
count_of (Texts length' multiple values) = length values
count_of (Numbers decimals unit values) = length values

abbrev pub have_few_uses : Values → Bool
have_few_uses (Texts length' multiple values) = list_all (λ value. nat_le (length value.uses) 100) values
have_few_uses (Numbers decimals unit values) = list_all (λ value. nat_le (length value.uses) 100) values

-- a characteristic's domain has all of its values, of which there is one
pub record KeepsValues (model : Model) : Type 0 where
  pub domains : (k : ℕ) (c : Characteristic) → slice_get model.characteristics k ≡ Some c
      → domain_of c.values ≡ all_values c.values
  pub some_values : list_all (λ c. nat_lt 0 (count_of c.values)) model.characteristics ≡ true

-- few dependencies are used at a characteristic, at a value and in a profile
pub record KeepsUses (model : Model) : Type 0 where
  pub uses : list_all (λ c. nat_le (length c.uses) 100) model.characteristics ≡ true
  pub value_uses : list_all (λ c. have_few_uses c.values) model.characteristics ≡ true
  pub profiles : list_all (λ object. nat_le (length object.procedures) 100) model.objects ≡ true
