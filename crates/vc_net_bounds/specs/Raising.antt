-- The bounds of places, raised rule by rule to what is needed there.
use Rattle.std.specs.Prelude.{ℕ, zero, suc, ◌+◌, max, Bool, false, not, ◌&&◌, ◌==◌, if◌then◌else◌, List, [], ◌∷◌}
use Rattle.std.specs.Prelude.{length, Option, None, Some}
use Rattle.std.specs.List.{list_any}
use Rattle.vc_plan.specs.declared.conditions.Piece.{Piece}
use Rattle.vc_plan.specs.declared.plans.Plan.{Plan}
use Rattle.vc_plan.specs.declared.rules.Binding.{Binding}
use Rattle.vc_plan.specs.declared.rules.Kind.{Kind}
use Rattle.vc_plan.specs.declared.rules.Kind.TheVariants.{Among, Compare, Equate, ByTable, Never, Last, Line}
use Rattle.vc_plan.specs.declared.rules.Rule.{Rule}
use Rattle.vc_plan.specs.Bounds.{Place, here_at, out_at, is_at, acting_size, condition_size, compare_bound}
use Rattle.vc_plan.specs.Bounds.{equate_bound, here_bound, is_bound, only_if, out_bound, rows_with}
use Rattle.vc_plan.specs.Domains.{is_grain_with, is_restrictable}
use Rattle.vc_plan.specs.TableRows.{is_column_of, rows_of}
use Rattle.vc_net_places.specs.Cells.{all_places}
use Rattle.vc_net_bounds.specs.Capping.{capped}

-- the bounds of the places, each raised to what is needed there
abbrev pub raised_by : (Place → ℕ) → List Place → List ℕ → List ℕ
raised_by need [] ns = ns
raised_by need (p ∷ ps) [] = []
raised_by need (p ∷ ps) (n ∷ ns) = max n (need p) ∷ raised_by need ps ns

-- the numbers, that of one place raised
abbrev pub raised_at : ℕ → ℕ → List ℕ → List ℕ
raised_at i b [] = []
raised_at zero b (n ∷ ns) = max n b ∷ ns
raised_at (suc i) b (n ∷ ns) = n ∷ raised_at i b ns

-- so many at one place alone
abbrev pub same_place : Place → Place → Bool
same_place (here_at i) (here_at j) = i == j
same_place (here_at i) (out_at w h) = false
same_place (here_at i) (is_at w) = false
same_place (out_at v g) (here_at j) = false
same_place (out_at v g) (out_at w h) = (v == w) && (g == h)
same_place (out_at v g) (is_at w) = false
same_place (is_at v) (here_at j) = false
same_place (is_at v) (out_at w h) = false
same_place (is_at v) (is_at w) = v == w

abbrev pub at_place : Place → ℕ → Place → ℕ
at_place place b other = only_if (same_place place other) b

-- so many at each grain of a variable
abbrev pub at_grains : ℕ → (ℕ → ℕ) → Place → ℕ
at_grains v need (here_at i) = 0
at_grains v need (out_at w g) = only_if (v == w) (need g)
at_grains v need (is_at w) = 0

-- the same by raising grain by grain
abbrev pub raised_grains : Plan → ℕ → (ℕ → ℕ) → List ℕ → List ℕ → List ℕ
raised_grains plan v need [] ns = ns
raised_grains plan v need (g ∷ gs) ns =
    raised_grains plan v need gs (raised_by (at_place (out_at v g) (need g)) (all_places plan) ns)

-- what each grain needs: all alike; those that fail a test; each with the rows of a table that have it
abbrev pub alike : ℕ → ℕ → ℕ
alike b g = b

abbrev pub where_failing : Plan → ℕ → (Piece → Bool) → ℕ → ℕ → ℕ
where_failing plan v test b g = only_if (not (is_grain_with plan v test g)) b

abbrev pub with_rows : Plan → ℕ → List Binding → ℕ → ℕ → ℕ → ℕ
with_rows plan table columns v b g = capped (b + rows_with plan table columns v g)

-- so many at a variable's grains where these may be excluded, and at its value where they may not
abbrev pub at_variable : Plan → ℕ → ℕ → Place → ℕ
at_variable plan v b (here_at i) = 0
at_variable plan v b (out_at w g) = only_if ((v == w) && is_restrictable plan v) b
at_variable plan v b (is_at w) = only_if ((v == w) && not (is_restrictable plan v)) b

-- a side of a comparison, and of an equation, where it is a lone variable that the rule may narrow
abbrev pub at_side : Plan → Option ℕ → ℕ → Place → ℕ
at_side plan None b place = 0
at_side plan (Some v) b place = at_variable plan v b place

abbrev pub at_equal : Option ℕ → ℕ → Place → ℕ
at_equal None b place = 0
at_equal (Some v) b place = at_place (is_at v) b place

-- a slot but the root
abbrev pub at_line : ℕ → ℕ → Place → ℕ
at_line i b place = if i == 0 then 0 else at_place (here_at i) b place

-- a variable that a table call may narrow, and each of a list
abbrev pub at_narrowed : Plan → ℕ → List Binding → ℕ → ℕ → Place → ℕ
at_narrowed plan table columns b v (here_at i) = 0
at_narrowed plan table columns b v (out_at w g) =
    only_if ((v == w) && (list_any (is_column_of v) columns && is_restrictable plan v))
    (with_rows plan table columns v b g)
at_narrowed plan table columns b v (is_at w) =
    only_if ((v == w) && (list_any (is_column_of v) columns && not (is_restrictable plan v)))
    (capped (b + length (rows_of plan table)))

abbrev pub raised_narrowed : Plan → ℕ → List Binding → ℕ → List ℕ → List ℕ → List ℕ
raised_narrowed plan table columns b [] ns = ns
raised_narrowed plan table columns b (v ∷ vs) ns =
    raised_narrowed plan table columns b vs (raised_by (at_narrowed plan table columns b v) (all_places plan) ns)

-- what a rule of the kind needs at a place; that the root is here is no conclusion
abbrev pub kind_bound : Plan → Rule → Kind → Place → ℕ
kind_bound plan rule kind (here_at i) = if i == 0 then 0 else here_bound plan rule kind i
kind_bound plan rule kind (out_at v g) = out_bound plan rule kind v g
kind_bound plan rule kind (is_at v) = is_bound plan rule kind v

abbrev pub capped_bound : Plan → Rule → Kind → Place → ℕ
capped_bound plan rule kind place = capped (kind_bound plan rule kind place)

-- what all conclusions of a rule of the kind need alike
abbrev pub common_bound : Plan → Rule → Kind → ℕ
common_bound plan rule (Among v restriction) = acting_size plan rule
common_bound plan rule (Compare r a b) = compare_bound plan rule a b
common_bound plan rule (Equate a b) = equate_bound plan rule a b
common_bound plan rule (ByTable table columns) = acting_size plan rule
common_bound plan rule Never = acting_size plan rule
common_bound plan rule (Last v) = 0
common_bound plan rule (Line i) = 1 + condition_size plan rule

-- the bounds after these rules too
abbrev pub raised_by_rules : Plan → List Rule → List ℕ → List ℕ
raised_by_rules plan [] ns = ns
raised_by_rules plan (rule ∷ rules) ns =
    raised_by_rules plan rules (raised_by (capped_bound plan rule rule.kind) (all_places plan) ns)
