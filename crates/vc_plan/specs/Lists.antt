-- The lists of characteristics: which values are listed, and how domains are cut from them.
use Rattle.std.specs.Prelude.{ℕ, pos, ◌+ℤ◌, Bool, true, false, ◌&&◌, ◌||◌, ◌==◌, List, [], ◌∷◌, slice_get, Option, None}
use Rattle.std.specs.Prelude.{Some}
use Rattle.std.specs.List.{list_all, list_any, position_or_len}
use Rattle.std.specs.Ordering.{int_eq}
use Rattle.vc_value.specs.Grains.{has_decimals, hold, unit_of}
use Rattle.vc_value.specs.declared.decimal.Dec.{Dec}
use Rattle.vc_value.specs.declared.grains.Grain.{Grain}
use Rattle.vc_value.specs.declared.table_header.Domain.{Domain}
use Rattle.vc_value.specs.declared.table_header.Domain.TheVariants.{Texts, Nums}
use Rattle.vc_value.specs.declared.value.Value.{Value}
use Rattle.vc_value.specs.declared.value.Value.TheVariants.{Text, Num}
use Rattle.vc_plan.specs.declared.conditions.Piece.{Piece}
use Rattle.vc_plan.specs.declared.conditions.Piece.TheVariants.{Stretch}
use Rattle.vc_plan.specs.declared.plans.Characteristic.{Characteristic}
use Rattle.vc_plan.specs.declared.plans.Plan.{Plan}
use Rattle.vc_plan.specs.declared.plans.TableColumn.{TableColumn}
use Rattle.vc_plan.specs.declared.plans.TextSet.{TextSet}
use Rattle.vc_plan.specs.declared.plans.Var.{Var}
use Rattle.vc_plan.specs.Domains.{grains_in}
use Rattle.vc_plan.specs.Orders.{same_numbers}
use Rattle.vc_plan.specs.Pieces.{is_part}

-- the list of a characteristic, if there is one of this number
abbrev pub list_in : Option Characteristic → Option Domain
list_in None = None
list_in (Some characteristic) = Some characteristic.list

abbrev pub list_of : Plan → Option ℕ → Option Domain
list_of plan None = None
list_of plan (Some c) = list_in (slice_get plan.characteristics c)

-- whether the grain lies in an entry
abbrev pub is_within : List Grain → Grain → Bool
is_within entries grain = list_any (λ entry. is_part (Stretch grain) (Stretch entry)) entries

-- whether a grain begins, or ends, with the number
abbrev pub begins_at : Dec → Grain → Bool
begins_at n grain = int_eq grain.low.millionths n.millionths

abbrev pub ends_at : Dec → Grain → Bool
ends_at n grain = int_eq grain.high.millionths n.millionths

-- whether an entry ends with the grain, or a grain begins with the next number
abbrev pub goes_on : ℕ → List Grain → List Grain → Grain → Bool
goes_on decimals entries grains grain =
    let next : Dec = record { millionths = grain.high.millionths +ℤ pos (unit_of decimals) } in
    list_any (ends_at grain.high) entries || list_any (begins_at next) grains

-- whether the grains are the entries cut up: none lacks a number, and none has another
abbrev pub are_cut_up : ℕ → List Grain → List Grain → Bool
are_cut_up decimals entries grains =
    list_all (is_within entries) grains
    && (list_all (λ entry. list_any (begins_at entry.low) grains) entries
    && list_all (goes_on decimals entries grains) grains)

-- whether the domain is cut from the list
abbrev pub is_cut_from : Option Domain → Option Domain → Bool
is_cut_from None domain = false
is_cut_from (Some list) None = false
is_cut_from (Some (Texts texts)) (Some (Texts others)) = same_numbers texts others
is_cut_from (Some (Texts texts)) (Some (Nums decimals grains)) = false
is_cut_from (Some (Nums decimals entries)) (Some (Texts others)) = false
is_cut_from (Some (Nums decimals entries)) (Some (Nums digits grains)) = (decimals == digits)
    && are_cut_up decimals entries grains

-- whether a variable's domain is, and whether a set's texts are its characteristic's
abbrev pub has_its_list : Plan → Var → Bool
has_its_list plan x = is_cut_from (list_of plan (Some x.characteristic)) (slice_get plan.domains x.domain)

abbrev pub are_texts : List ℕ → Option Domain → Bool
are_texts texts None = false
are_texts texts (Some (Texts others)) = same_numbers texts others
are_texts texts (Some (Nums decimals grains)) = false

abbrev pub has_listed_texts : Option Domain → Option Domain → Bool
has_listed_texts None domain = false
has_listed_texts (Some (Texts texts)) domain = are_texts texts domain
has_listed_texts (Some (Nums decimals entries)) domain = false

abbrev pub has_its_texts : Plan → TextSet → Bool
has_its_texts plan x = has_listed_texts (list_of plan (Some x.characteristic)) (slice_get plan.domains x.domain)

-- whether the piece is an entry of the list, and its place there
abbrev pub is_same_piece : Piece → Piece → Bool
is_same_piece p q = is_part p q && is_part q p

abbrev pub is_entry : Option Domain → Piece → Bool
is_entry list piece = list_any (is_same_piece piece) (grains_in list)

abbrev pub list_place : Option Domain → Piece → ℕ
list_place list piece = position_or_len (is_same_piece piece) (grains_in list)

-- whether the value is one of the list
abbrev pub is_listed : Option Domain → Value → Bool
is_listed None a = false
is_listed (Some (Texts texts)) (Text t) = list_any (λ s. s == t) texts
is_listed (Some (Texts texts)) (Num a) = false
is_listed (Some (Nums decimals entries)) (Text t) = false
is_listed (Some (Nums decimals entries)) (Num a) = hold a entries && has_decimals decimals a

-- whether a row's cells are values of their columns' lists
abbrev pub are_listed : Plan → List TableColumn → List Value → Bool
are_listed plan [] row = true
are_listed plan (column ∷ columns) [] = true
are_listed plan (column ∷ columns) (a ∷ row) =
    is_listed (list_of plan (Some column.characteristic)) a && are_listed plan columns row
