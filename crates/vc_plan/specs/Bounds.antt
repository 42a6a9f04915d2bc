-- How many premises a conclusion needs at most, and how many cells all of them fill.
use Rattle.std.specs.Prelude.{ℕ, ◌+◌, max, Bool, false, not, ◌&&◌, ◌||◌, ◌==◌, if◌then◌else◌, List, [], ◌∷◌, ◌++◌}
use Rattle.std.specs.Prelude.{length, drop, map, flat_map, slice_get, Option, None, Some}
use Rattle.std.specs.List.{filter, list_any, sum_by}
use Rattle.vc_plan.specs.declared.atoms.Atom.{Atom}
use Rattle.vc_plan.specs.declared.atoms.Atom.TheVariants.{Here, Out, Is}
use Rattle.vc_plan.specs.declared.plans.Plan.{Plan}
use Rattle.vc_plan.specs.declared.rules.Binding.{Binding}
use Rattle.vc_plan.specs.declared.rules.Kind.{Kind}
use Rattle.vc_plan.specs.declared.rules.Kind.TheVariants.{Among, Compare, Equate, ByTable, Never, Last, Line}
use Rattle.vc_plan.specs.declared.rules.Rule.{Rule}
use Rattle.vc_plan.specs.Domains.{numbers_below, count_of, is_restrictable, is_grain_with}
use Rattle.vc_plan.specs.Reads.{vars_of_term, vars_of_condition}
use Rattle.vc_plan.specs.Restrictions.{is_inferred, allows, lone_inferred}
use Rattle.vc_plan.specs.TableRows.{rows_of, is_column_of, columns_of, has_grain}

-- a place for an atom; all values of a variable share one
pub data Place : Type 0 where
  here_at : ℕ → Place
  out_at : ℕ → ℕ → Place
  is_at : ℕ → Place

-- that of an atom
abbrev pub place_for : Atom → Place
place_for (Here i) = here_at i
place_for (Out v g) = out_at v g
place_for (Is v a) = is_at v

-- the list with each number once
abbrev pub distinct : List ℕ → List ℕ
distinct [] = []
distinct (x ∷ xs) = let rest = distinct xs in if list_any (λ y. y == x) xs then rest else x ∷ rest

-- how many different variables the rule's condition reads
abbrev pub condition_size : Plan → Rule → ℕ
condition_size plan rule = length (distinct (vars_of_condition (slice_get plan.conditions rule.condition)))

-- the rule's slots and the different variables that its condition reads: what lets it act
abbrev pub acting_size : Plan → Rule → ℕ
acting_size plan rule = length rule.slots + condition_size plan rule

-- how many different variables two terms read
abbrev pub sides_size : Plan → ℕ → ℕ → ℕ
sides_size plan a b = length (distinct (vars_of_term (slice_get plan.terms a) ++ vars_of_term (slice_get plan.terms b)))

-- the grains of a lone inferred side that isn't restrictable
abbrev pub side_grains : Plan → Option ℕ → ℕ
side_grains plan None = 0
side_grains plan (Some v) = if is_restrictable plan v then 0 else count_of plan v

-- the bound of a comparison, and that of an equation
abbrev pub compare_bound : Plan → Rule → ℕ → ℕ → ℕ
compare_bound plan rule a b =
    (acting_size plan rule + sides_size plan a b)
    + (side_grains plan (lone_inferred plan rule a) + side_grains plan (lone_inferred plan rule b))

abbrev pub equate_bound : Plan → Rule → ℕ → ℕ → ℕ
equate_bound plan rule a b = acting_size plan rule + sides_size plan a b

-- whether this is the variable
abbrev pub is_this : ℕ → Option ℕ → Bool
is_this v None = false
is_this v (Some w) = v == w

-- whether one of two sides is the lone inferred variable
abbrev pub is_side : Plan → Rule → ℕ → ℕ → ℕ → Bool
is_side plan rule a b v = is_this v (lone_inferred plan rule a) || is_this v (lone_inferred plan rule b)

-- the number where the test holds, else 0
abbrev pub only_if : Bool → ℕ → ℕ
only_if test n = if test then n else 0

-- the rows that have the grain for the variable
abbrev pub rows_with : Plan → ℕ → List Binding → ℕ → ℕ → ℕ
rows_with plan table columns v g = length (filter (has_grain plan v (columns_of v columns) g) (rows_of plan table))

-- whether the table call narrows the variable
abbrev pub is_narrowed : Rule → List Binding → ℕ → Bool
is_narrowed rule columns v = is_inferred rule v && list_any (is_column_of v) columns

-- the premises at most of each kind's conclusion at a place; 0 where it can't conclude there
abbrev pub here_bound : Plan → Rule → Kind → ℕ → ℕ
here_bound plan rule (Among v restriction) i = 0
here_bound plan rule (Compare r a b) i = 0
here_bound plan rule (Equate a b) i = 0
here_bound plan rule (ByTable table columns) i = 0
here_bound plan rule Never i = 0
here_bound plan rule (Last v) i = 0
here_bound plan rule (Line j) i = only_if (i == j) (1 + condition_size plan rule)

abbrev pub out_bound : Plan → Rule → Kind → ℕ → ℕ → ℕ
out_bound plan rule (Among v restriction) w g =
    only_if (((v == w) && is_inferred rule v)
    && (is_restrictable plan v && not (is_grain_with plan v (allows plan v restriction) g)))
    (acting_size plan rule)
out_bound plan rule (Compare r a b) w g =
    only_if (is_side plan rule a b w && is_restrictable plan w) (compare_bound plan rule a b)
out_bound plan rule (Equate a b) w g = 0
out_bound plan rule (ByTable table columns) w g =
    only_if (is_narrowed rule columns w && is_restrictable plan w)
    (acting_size plan rule + rows_with plan table columns w g)
out_bound plan rule Never w g = 0
out_bound plan rule (Last v) w g = 0
out_bound plan rule (Line i) w g = 0

abbrev pub is_bound : Plan → Rule → Kind → ℕ → ℕ
is_bound plan rule (Among v restriction) w =
    only_if (((v == w) && is_inferred rule v) && not (is_restrictable plan v)) (acting_size plan rule + count_of plan v)
is_bound plan rule (Compare r a b) w =
    only_if (is_side plan rule a b w && not (is_restrictable plan w)) (compare_bound plan rule a b)
is_bound plan rule (Equate a b) w = only_if (is_side plan rule a b w) (equate_bound plan rule a b)
is_bound plan rule (ByTable table columns) w =
    only_if (is_narrowed rule columns w && not (is_restrictable plan w))
    (acting_size plan rule + length (rows_of plan table))
is_bound plan rule Never w = 0
is_bound plan rule (Last v) w = only_if (v == w) (count_of plan v)
is_bound plan rule (Line i) w = 0

-- the premises at most of the rule's conclusion at the place
abbrev pub bound_of : Plan → Rule → Place → ℕ
bound_of plan rule (here_at i) = here_bound plan rule rule.kind i
bound_of plan rule (out_at v g) = out_bound plan rule rule.kind v g
bound_of plan rule (is_at v) = is_bound plan rule rule.kind v

-- the premises at most of a clash by the kind; 0 where it can't clash
abbrev pub kind_clash_bound : Plan → Rule → Kind → ℕ
kind_clash_bound plan rule (Among v restriction) = acting_size plan rule + count_of plan v
kind_clash_bound plan rule (Compare r a b) = compare_bound plan rule a b
kind_clash_bound plan rule (Equate a b) = equate_bound plan rule a b
kind_clash_bound plan rule (ByTable table columns) = acting_size plan rule + length (rows_of plan table)
kind_clash_bound plan rule Never = acting_size plan rule
kind_clash_bound plan rule (Last v) = 0
kind_clash_bound plan rule (Line i) = 0

abbrev pub clash_bound : Plan → Rule → ℕ
clash_bound plan rule = kind_clash_bound plan rule rule.kind

-- that of a source, at its variable's value alone
abbrev pub source_bound : Place → ℕ
source_bound (here_at i) = 0
source_bound (out_at v g) = 0
source_bound (is_at v) = 1

-- the greatest number of a list of things
abbrev pub greatest : {X : Type 0} → (X → ℕ) → List X → ℕ
greatest f [] = 0
greatest f (x ∷ xs) = max (f x) (greatest f xs)

-- the greatest bound at the place among rules and sources
abbrev pub place_bound : Plan → Place → ℕ
place_bound plan place = max (source_bound place) (greatest (λ rule. bound_of plan rule place) plan.rules)

-- the places of all atoms but that the root is here
abbrev pub places_of : Plan → ℕ → List Place
places_of plan v = map (out_at v) (numbers_below (count_of plan v)) ++ is_at v ∷ []

abbrev pub places : Plan → List Place
places plan = map here_at (drop 1 (numbers_below (length plan.slots)))
    ++ flat_map (places_of plan) (numbers_below (length plan.vars))

-- the cells for the premises of a conclusion at each place, and of one clash
abbrev pub cell_bound : Plan → ℕ
cell_bound plan = sum_by (place_bound plan) (places plan) + max 1 (greatest (clash_bound plan) plan.rules)
