-- What a model keeps of the limits of its text.
use Rattle.std.specs.Prelude.{◌≡◌, ℕ, Bool, true, ◌&&◌, nat_lt, nat_le, length}
use Rattle.std.specs.List.{list_all}
use Rattle.vc_model_parts.specs.declared.parts.Values.{Values}
use Rattle.vc_model_parts.specs.declared.parts.Values.TheVariants.{Texts, Numbers}
use Rattle.vc_model_drafts.specs.Seen.{SeenItem, SeenOperation, SeenModel}

-- how many values there are, and whether their length or decimals are those of a form
abbrev pub count_of : Values → ℕ
count_of (Texts length' multiple values) = length values
count_of (Numbers decimals unit values) = length values

abbrev pub is_in_range : Values → Bool
is_in_range (Texts length' multiple values) = nat_le 1 length' && nat_le length' 30
is_in_range (Numbers decimals unit values) = nat_le decimals 6

-- whether the values have at most so many uses each
abbrev pub have_few_uses : Values → Bool
have_few_uses (Texts length' multiple values) = list_all (λ value. nat_le (length value.uses) 100) values
have_few_uses (Numbers decimals unit values) = list_all (λ value. nat_le (length value.uses) 100) values

-- whether four digits are enough for a number, at a line or an operation of few uses
abbrev pub is_item_limited : SeenItem → Bool
is_item_limited item = nat_lt item.item 10_000 && nat_le (length item.uses) 100

abbrev pub is_operation_limited : SeenOperation → Bool
is_operation_limited operation = nat_lt operation.number 10_000 && nat_le (length operation.uses) 100

-- there are no more things of a kind than may be, and no greater counts
pub record KeepsLimits (model : SeenModel) : Type 0 where
  pub characteristics : nat_le (length model.characteristics) 2_000 ≡ true
  pub classes : nat_le (length model.classes) 500 ≡ true
  pub tables : nat_le (length model.tables) 200 ≡ true
  pub dependencies : nat_le (length model.dependencies) 2_000 ≡ true
  pub nets : nat_le (length model.nets) 200 ≡ true
  pub objects : nat_le (length model.objects) 500 ≡ true
  pub values : list_all (λ characteristic. nat_le (count_of characteristic.values) 1_000) model.characteristics ≡ true
  pub ranges : list_all (λ characteristic. is_in_range characteristic.values) model.characteristics ≡ true
  pub members : list_all (λ class. nat_le (length class.members) 500) model.classes ≡ true
  pub columns : list_all (λ table. nat_le (length table.columns) 20) model.tables ≡ true
  pub items : list_all (λ object. nat_le (length object.bill) 1_000) model.objects ≡ true
  pub operations : list_all (λ object. nat_le (length object.operations) 1_000) model.objects ≡ true
  pub item_limits : list_all (λ object. list_all is_item_limited object.bill) model.objects ≡ true
  pub operation_limits : list_all (λ object. list_all is_operation_limited object.operations) model.objects ≡ true
  pub uses : list_all (λ characteristic. nat_le (length characteristic.uses) 100) model.characteristics ≡ true
  pub value_uses : list_all (λ characteristic. have_few_uses characteristic.values) model.characteristics ≡ true
  pub constraints : list_all (λ net. nat_le (length net.constraints) 100) model.nets ≡ true
  pub profiles : list_all (λ object. nat_le (length object.nets) 100 && nat_le (length object.procedures) 100)
      model.objects ≡ true
