-- What is found at its place in the order of rows is the first that has the keys.
use Rattle.std.proofs.Common.{◌≡◌, ℕ, true, false, ◌&&◌, List, [], ◌∷◌, refl, ◌∙◌, ap}
use Rattle.std.specs.Prelude.{pos, unsigned_abs, ◌==◌, slice_get, Option, None, Some}
use Rattle.std.specs.Cmp.{both_ways, signed_Decides, unsigned_Decides}
use Rattle.std.specs.Cmp.Lexicographic.{slice_cmp}
use Rattle.std.specs.List.{find}
use Rattle.std.specs.List.Sorted.{IsPartitionedBy}
use Rattle.std.specs.Ordering.{int_eq, is_eq, is_lt, ordering_then}
use Rattle.std.specs.declared.cmp.Ordering.{Ordering}
use Rattle.std.specs.declared.cmp.Ordering.TheVariants.{Less, Equal, Greater}
use Rattle.vc_value.specs.declared.value.Value.{Value}
use Rattle.vc_value.specs.declared.value.Value.TheVariants.{Text, Num}
use Rattle.vc_plan.specs.declared.plans.Plan.{Plan}
use Rattle.vc_plan.specs.declared.procedures.KeyTerm.{KeyTerm}
use Rattle.vc_plan.specs.Readings.{Reading}
use Rattle.vc_plan.specs.Seen.{is_value}
use Rattle.vc_plan.specs.Statements.{has_keys}
use Rattle.vc_plan.specs.TableRows.{cell_passes}
use Rattle.vc_plan.specs.Truth.{value_at}
use Rattle.vc_proc_look_ups.specs.Orders.{IsOrderOf, columns_of, row_in}
use Rattle.vc_proc_look_ups.specs.Ranks.{cell_rank, compared, ranks_of, value_rank}
use Rattle.vc_proc_look_ups.proofs.RankLaws.{rows_total}
use Rattle.vc_proc_look_ups.proofs.SearchLaws.{first_found, none_behind, none_found, parted}
use Rattle.vc_proc.specs.LookingUp.{IsPlaceAmong, compared_with, ranks_sought}

eq_then : (a b : Ordering) → (is_eq a && is_eq b) ≡ is_eq (ordering_then a b)
eq_then Less b = refl
eq_then Equal b = refl
eq_then Greater b = refl

same_text : (s t : ℕ) → (s == t) ≡ int_eq (pos s) (pos t)
same_text s t =
    both_ways (s == t) (int_eq (pos s) (pos t))
    (λ e. (signed_Decides (pos s) (pos t)).1 (ap pos ((unsigned_Decides s t).0 e)))
    (λ e. (unsigned_Decides s t).1 (ap unsigned_abs ((signed_Decides (pos s) (pos t)).0 e)))

-- a cell is a term's value where their ranks are the same
key_alike : (cell value : Option Value)
    → cell_passes (λ c. is_value c value) cell ≡ is_eq (compared (cell_rank cell) (value_rank value))
key_alike None None = refl
key_alike None (Some (Text t)) = refl
key_alike None (Some (Num b)) = refl
key_alike (Some (Text s)) None = refl
key_alike (Some (Text s)) (Some (Text t)) = same_text s t
key_alike (Some (Text s)) (Some (Num b)) = refl
key_alike (Some (Num a)) None = refl
key_alike (Some (Num a)) (Some (Text t)) = refl
key_alike (Some (Num a)) (Some (Num b)) = refl

module _ (plan : Plan) (reading : Reading) where
  keys_alike : (keys : List KeyTerm) (row : List Value)
      → has_keys plan reading keys row ≡ is_eq (compared_with plan reading keys row)
  keys_alike [] row = refl
  keys_alike (key ∷ keys) row =
      let cell = slice_get row key.column in
      let value = value_at plan reading key.term in
      ap (λ b. b && has_keys plan reading keys row) (key_alike cell value)
      ∙ (ap (λ b. is_eq (compared (cell_rank cell) (value_rank value)) && b) (keys_alike keys row)
      ∙ eq_then (compared (cell_rank cell) (value_rank value)) (compared_with plan reading keys row))

  module _ (keys : List KeyTerm) (rows : List (List Value)) (order : List ℕ)
      (its : IsOrderOf rows (columns_of keys) order) where
    pub place_parts : IsPartitionedBy (λ n. is_lt (compared_with plan reading keys (row_in (slice_get rows n)))) order
    place_parts =
        parted (slice_cmp compared) rows_total rows (ranks_of (columns_of keys)) order its.ascends
        (ranks_sought plan reading keys)

    module _ (place : ℕ) (point : IsPlaceAmong plan reading keys rows order place) where
      pub row_found : (n : ℕ) → slice_get order place ≡ Some n
          → has_keys plan reading keys (row_in (slice_get rows n)) ≡ true
          → find (has_keys plan reading keys) rows ≡ Some (row_in (slice_get rows n))
      row_found =
          first_found (slice_cmp compared) rows_total rows (ranks_of (columns_of keys)) order its.ascends its.all
          (ranks_sought plan reading keys) (has_keys plan reading keys) (keys_alike keys) place point

      pub other_row : (n : ℕ) → slice_get order place ≡ Some n
          → has_keys plan reading keys (row_in (slice_get rows n)) ≡ false
          → find (has_keys plan reading keys) rows ≡ None
      other_row =
          none_found (slice_cmp compared) rows_total rows (ranks_of (columns_of keys)) order its.ascends its.all
          (ranks_sought plan reading keys) (has_keys plan reading keys) (keys_alike keys) place point

      pub no_row : slice_get order place ≡ None → find (has_keys plan reading keys) rows ≡ None
      no_row =
          none_behind (slice_cmp compared) rows_total rows (ranks_of (columns_of keys)) order its.ascends its.all
          (ranks_sought plan reading keys) (has_keys plan reading keys) (keys_alike keys) place point
