-- What is found of a plan's cells.
use Rattle.std.specs.Prelude.{◌≡◌, ◌≤◌, ◌<◌, ℕ, max, List, ◌∷◌, ◌++◌, length, replicate}
use Rattle.std.specs.List.{flat_map}
use Rattle.vc_plan.specs.declared.plans.Plan.{Plan}
use Rattle.vc_plan.specs.Bounds.{cell_bound, clash_bound, greatest}
use Rattle.vc_plan.specs.Domains.{count_of, numbers_below}
use Rattle.vc_net_places.specs.Cells.{bounds_of}
use Rattle.vc_net_bounds.specs.declared.bounds.Counted.{Counted}
use Rattle.vc_net_bounds.specs.declared.bounds.Counted.TheVariants.{Within, TooMany}
use Rattle.vc_net_bounds.specs.Capping.{most_cells}

-- the cells of one clash
abbrev pub clash_cells : Plan → ℕ
clash_cells plan = max 1 (greatest (clash_bound plan) plan.rules)

-- each place's cells and those of a clash, or that all of them are too many
abbrev pub IsCounted : Plan → Counted → Type 0
IsCounted plan (Within bounds) =
    (bounds.places ≡ bounds_of plan) × (bounds.clash ≡ clash_cells plan) × (cell_bound plan ≤ most_cells)
IsCounted plan TooMany = most_cells < cell_bound plan

-- what the places need for sources alone: a variable's value one premise, the others none
abbrev pub sources_of_var : Plan → ℕ → List ℕ
sources_of_var plan v = 1 ∷ replicate (count_of plan v) 0

abbrev pub sources_before : Plan → ℕ → List ℕ
sources_before plan v = replicate (length plan.slots) 0 ++ flat_map (sources_of_var plan) (numbers_below v)
