-- How many grains there are of some, and which if it is one.
use Rattle.std.specs.Prelude.{ℕ, ◌&&◌, Bool, true, false, List, [], ◌∷◌, Option}
use Rattle.std.specs.List.{filter}
use Rattle.vc_value.specs.declared.value.Value.{Value}
use Rattle.vc_plan.specs.declared.conditions.Piece.{Piece}
use Rattle.vc_plan.specs.declared.plans.Plan.{Plan}
use Rattle.vc_plan.specs.Domains.{numbers_below, count_of, is_grain_with}
use Rattle.vc_plan.specs.Seen.{Seen, is_left_by}
use Rattle.vc_rule_grains.specs.declared.remaining.Remaining.{Remaining}
use Rattle.vc_rule_grains.specs.declared.remaining.Remaining.TheVariants.{Nothing, One, Several}

abbrev pub remaining_of : List ℕ → Remaining
remaining_of [] = Nothing
remaining_of (g ∷ []) = One g
remaining_of (g ∷ (h ∷ more)) = Several

abbrev pub is_several : Remaining → Bool
is_several Nothing = false
is_several (One g) = false
is_several Several = true

-- with one more, and with all of these more
abbrev pub with_one : Remaining → ℕ → Remaining
with_one Nothing g = One g
with_one (One h) g = Several
with_one Several g = Several

abbrev pub counted : Remaining → List ℕ → Remaining
counted remaining [] = remaining
counted remaining (g ∷ gs) = counted (with_one remaining g) gs

-- the grains that are left where the variable has this value, or none, and that pass the test
abbrev pub left_by : Plan → Seen → ℕ → Option Value → (Piece → Bool) → List ℕ
left_by plan seen v value test =
    filter (λ g. is_left_by plan seen v g value && is_grain_with plan v test g) (numbers_below (count_of plan v))
