-- What a model keeps of its numbers: their size.
use Rattle.std.specs.Prelude.{◌≡◌, ◌^◌, Bool, true, ◌&&◌, nat_lt, unsigned_abs}
use Rattle.std.specs.List.{list_all}
use Rattle.vc_value.specs.declared.decimal.Dec.{Dec}
use Rattle.vc_model_parts.specs.declared.parts.Values.{Values}
use Rattle.vc_model_parts.specs.declared.parts.Values.TheVariants.{Texts, Numbers}
use Rattle.vc_model_drafts.specs.Seen.{SeenModel}

-- nine digits before the point and six after it are enough
abbrev pub is_small : Dec → Bool
is_small number = nat_lt (unsigned_abs number.millionths) (10 ^ 15)

abbrev pub are_small : Values → Bool
are_small (Texts length multiple values) = true
are_small (Numbers decimals unit values) = list_all (λ value. is_small value.low && is_small value.high) values

pub record KeepsNumbers (model : SeenModel) : Type 0 where
  pub numbers : list_all (λ characteristic. are_small characteristic.values) model.characteristics ≡ true
