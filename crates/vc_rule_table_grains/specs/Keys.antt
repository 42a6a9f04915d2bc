-- Keys of grains, by which rows are found: a text's key is the text, a number's the number of its grain.
use Rattle.std.specs.Prelude.{◌≡◌, ℕ, Bool, true, false, nat_lt, ◌==◌, if◌then◌else◌, List, length, position, slice_get}
use Rattle.std.specs.Prelude.{Option, None, Some}
use Rattle.std.specs.List.{list_all, list_any}
use Rattle.vc_value.specs.Grains.{holds, is_ascending}
use Rattle.vc_value.specs.declared.table_header.Domain.{Domain}
use Rattle.vc_value.specs.declared.table_header.Domain.TheVariants.{Texts, Nums}
use Rattle.vc_value.specs.declared.value.Value.{Value}
use Rattle.vc_value.specs.declared.value.Value.TheVariants.{Text, Num}
use Rattle.vc_plan.specs.declared.rules.Binding.{Binding}
use Rattle.vc_plan.specs.TableRows.{first_cell}

abbrev pub value_key : Domain → Value → Option ℕ
value_key (Texts texts) (Text t) = Some t
value_key (Texts texts) (Num n) = None
value_key (Nums decimals grains) (Text t) = None
value_key (Nums decimals grains) (Num n) = position (holds n) grains

abbrev pub cell_key : Domain → Option Value → Option ℕ
cell_key domain None = None
cell_key domain (Some a) = value_key domain a

abbrev pub grain_key : Domain → ℕ → Option ℕ
grain_key (Texts texts) g = slice_get texts g
grain_key (Nums decimals grains) g = if nat_lt g (length grains) then Some g else None

-- whether both are there, and one key
abbrev pub same_key : Option ℕ → Option ℕ → Bool
same_key None other = false
same_key (Some k) None = false
same_key (Some k) (Some j) = j == k

-- what is known of each list of grains: numbers ascend
abbrev pub IsApart : Domain → Type 0
IsApart (Texts texts) = Unit {0}
IsApart (Nums decimals grains) = is_ascending grains ≡ true

-- whether the cells in all of these columns have the key
abbrev pub all_have_key : Domain → List Binding → List Value → Option ℕ → Bool
all_have_key domain own row key =
    list_all (λ column. same_key (cell_key domain (slice_get row column.column)) key) own

-- the key that all of a variable's columns have in the row, if they have one
abbrev pub row_key : Domain → List Binding → List Value → Option ℕ
row_key domain own row =
    let key = cell_key domain (first_cell own row) in if all_have_key domain own row key then key else None

-- whether some of the rows has the key
abbrev pub some_has_key : Domain → List Binding → List (List Value) → ℕ → Bool
some_has_key domain own rows k = list_any (λ row. same_key (row_key domain own row) (Some k)) rows
