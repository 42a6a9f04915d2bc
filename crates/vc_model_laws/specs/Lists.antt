-- What a model keeps of its lists: nothing stands twice, and what has an order ascends.
use Rattle.std.specs.Prelude.{◌≡◌, ℕ, Bool, true, false, not, ◌&&◌, ◌==◌, nat_lt, List, map}
use Rattle.std.specs.List.{list_all}
use Rattle.vc_value.specs.Grains.{has_decimals, is_ascending}
use Rattle.vc_model_parts.specs.Headers.{grain_of}
use Rattle.vc_model_parts.specs.declared.parts.Values.{Values}
use Rattle.vc_model_parts.specs.declared.parts.Values.TheVariants.{Texts, Numbers}
use Rattle.vc_model_drafts.specs.Seen.{SeenModel}
use Rattle.vc_plan.specs.Orders.{are_apart, are_in_order}
use Rattle.vc_model_laws.specs.Limits.{count_of}

-- whether no number stands twice
abbrev pub are_different : List ℕ → Bool
are_different numbers = are_apart (λ a b. a == b) numbers

-- whether no text is listed twice; whether intervals ascend, with ends of at most the decimals
abbrev pub are_proper : Values → Bool
are_proper (Texts length multiple values) = are_different (map (λ value. value.text) values)
are_proper (Numbers decimals unit values) =
    is_ascending (map grain_of values)
    && list_all (λ grain. has_decimals decimals grain.low && has_decimals decimals grain.high) (map grain_of values)

-- whether nothing is used twice at a value
abbrev pub are_uses_different : Values → Bool
are_uses_different (Texts length multiple values) = list_all (λ value. are_different value.uses) values
are_uses_different (Numbers decimals unit values) = list_all (λ value. are_different value.uses) values

-- whether a characteristic has several values
abbrev pub is_multiple : Values → Bool
is_multiple (Texts length multiple values) = multiple
is_multiple (Numbers decimals unit values) = false

pub record KeepsLists (model : SeenModel) : Type 0 where
  pub values : list_all (λ characteristic. are_proper characteristic.values) model.characteristics ≡ true
  pub some_values : list_all (λ characteristic. nat_lt 0 (count_of characteristic.values)) model.characteristics ≡ true
  pub unmixed : list_all (λ characteristic. not (is_multiple characteristic.values && characteristic.restrictable))
      model.characteristics ≡ true
  pub members : list_all (λ class. are_different class.members) model.classes ≡ true
  pub columns : list_all (λ table. are_apart (λ a b. a.characteristic == b.characteristic) table.columns)
      model.tables ≡ true
  pub items : list_all (λ object. are_in_order (λ a b. nat_lt a.item b.item) object.bill) model.objects ≡ true
  pub operations : list_all (λ object. are_in_order (λ a b. nat_lt a.number b.number) object.operations)
      model.objects ≡ true
  pub uses : list_all (λ characteristic. are_different characteristic.uses) model.characteristics ≡ true
  pub value_uses : list_all (λ characteristic. are_uses_different characteristic.values) model.characteristics ≡ true
  pub constraints : list_all (λ net. are_different net.constraints) model.nets ≡ true
  pub nets : list_all (λ object. are_different object.nets) model.objects ≡ true
  pub procedures : list_all (λ object. are_different object.procedures) model.objects ≡ true
  pub item_uses : list_all (λ object. list_all (λ item. are_different item.uses) object.bill) model.objects ≡ true
  pub operation_uses : list_all (λ object. list_all (λ operation. are_different operation.uses) object.operations)
      model.objects ≡ true
