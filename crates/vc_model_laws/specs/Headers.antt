-- What a model's headers keep: they leave nothing out of a model.
use Rattle.std.specs.Prelude.{◌≡◌, ℕ, true, ◌==◌, List, [], length, map, slice_get, Some}
use Rattle.std.specs.List.{list_all}
use Rattle.vc_value.specs.declared.table_header.Domain.{Domain}
use Rattle.vc_value.specs.declared.table_header.Domain.TheVariants as domains
use Rattle.vc_model_parts.specs.Headers.{grain_of, domain_of, texts_of, columns_of}
use Rattle.vc_model_parts.specs.declared.parts.Characteristic.{Characteristic}
use Rattle.vc_model_parts.specs.declared.parts.Values.{Values}
use Rattle.vc_model_parts.specs.declared.parts.Values.TheVariants.{Texts, Numbers}
use Rattle.vc_model_drafts.specs.Seen.{SeenModel}

-- all values of a characteristic, as the domain of a column
abbrev pub whole_domain : Values → Domain
whole_domain (Texts length multiple values) = domains.Texts (map (λ value. value.text) values)
whole_domain (Numbers decimals unit values) = domains.Nums decimals (map grain_of values)

-- the numbers of its texts
abbrev pub text_numbers : Values → List ℕ
text_numbers (Texts length multiple values) = map (λ value. value.text) values
text_numbers (Numbers decimals unit values) = []

-- each column of a table is one of its header, and a column's domain and texts are those of its characteristic's values
pub record KeepsHeaders (model : SeenModel) : Type 0 where
  pub columns : list_all (λ table. length (columns_of model.texts model.characteristics table.columns) == length
      table.columns) model.tables ≡ true
  pub domains : (k : ℕ) (characteristic : Characteristic) → slice_get model.characteristics k ≡ Some characteristic
      → domain_of characteristic.values ≡ whole_domain characteristic.values
  pub entries : (k : ℕ) (characteristic : Characteristic) → slice_get model.characteristics k ≡ Some characteristic
      → map (λ entry. entry.number) (texts_of model.texts characteristic.values) ≡ text_numbers characteristic.values
