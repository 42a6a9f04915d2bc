-- Where the premises of what stands at each place are kept: each place has cells of its own, as many as its conclusions
-- need at most.
use Rattle.std.specs.Prelude.{ℕ, ◌+◌, ◌==◌, if◌then◌else◌, List, [], ◌∷◌, ◌++◌, length, map}
use Rattle.std.specs.List.{flat_map}
use Rattle.vc_plan.specs.declared.plans.Plan.{Plan}
use Rattle.vc_plan.specs.Bounds.{Place, here_at, is_at, out_at, place_bound}
use Rattle.vc_plan.specs.Domains.{numbers_below, count_of}

-- the places in the order of their numbers: those of the slots and of the first variables, and all
abbrev pub places_of_var : Plan → ℕ → List Place
places_of_var plan v = is_at v ∷ map (out_at v) (numbers_below (count_of plan v))

abbrev pub places_before : Plan → ℕ → List Place
places_before plan v =
    map here_at (numbers_below (length plan.slots)) ++ flat_map (places_of_var plan) (numbers_below v)

abbrev pub all_places : Plan → List Place
all_places plan = places_before plan (length plan.vars)

-- the premises at most of what stands at a place; that the root is here is no conclusion, and has none
abbrev pub own_bound : Plan → Place → ℕ
own_bound plan (here_at i) = if i == 0 then 0 else place_bound plan (here_at i)
own_bound plan (out_at v g) = place_bound plan (out_at v g)
own_bound plan (is_at v) = place_bound plan (is_at v)

abbrev pub bounds_of : Plan → List ℕ
bounds_of plan = map (own_bound plan) (all_places plan)

-- all of the numbers together
abbrev pub total : List ℕ → ℕ
total [] = 0
total (n ∷ ns) = n + total ns

-- where the cells of each begin, one after another from a first on, and where the last end
abbrev pub begins_from : ℕ → List ℕ → List ℕ
begins_from first [] = first ∷ []
begins_from first (n ∷ ns) = first ∷ begins_from (first + n) ns

abbrev pub begins_of : Plan → List ℕ
begins_of plan = begins_from 0 (bounds_of plan)
