-- What is counted of a column's cells is what is counted of the rows for a variable that is given to it alone.
use Rattle.std.proofs.Common.{◌≡◌, ℕ, zero, suc, ◌+◌, ◌<◌, Bool, true, false, cond, not, ◌&&◌, ◌==◌, List, [], ◌∷◌}
use Rattle.std.proofs.Common.{◌++◌, length, map, refl, sym, ◌∙◌, ap, arith}
use Rattle.std.specs.Prelude.{slice_get, slice_index_or, Option, Some}
use Rattle.std.specs.List.{filter, range_with_len}
use Rattle.std.proofs.lemmas.Bool.{and_parts, eqb-true}
use Rattle.std.proofs.lemmas.List.{length-map, map-append}
use Rattle.vc_value.specs.declared.value.Value.{Value}
use Rattle.vc_plan.specs.declared.conditions.Piece.{Piece}
use Rattle.vc_plan.specs.declared.plans.Plan.{Plan}
use Rattle.vc_plan.specs.declared.plans.Var as variable
use Rattle.vc_plan.specs.declared.rules.Binding.{Binding}
use Rattle.vc_plan.specs.Bounds.{rows_with}
use Rattle.vc_plan.specs.Domains.{count_of, domain_of, grains_in, grains_of, numbers_below}
use Rattle.vc_plan.specs.TableRows.{cell_passes, columns_of, has_grain, is_column_of, rows_of}
use Rattle.vc_rule_table.specs.Cells.{grain_holds}
use Rattle.vc_net_places.specs.Cells.{all_places}
use Rattle.vc_net_places.proofs.PlaceLaws.Things.{length_range, mapped_next}
use Rattle.vc_net_places.proofs.PlaceLaws.Cells.{get_mapped}
use Rattle.vc_net_bounds.specs.declared.keeping.Column.{Column}
use Rattle.vc_net_bounds.specs.Capping.{capped}
use Rattle.vc_net_bounds.specs.Keeping.{cell_of, cells_by_grain, cells_of, column_counts, if_met, lies_in_grain}
use Rattle.vc_net_bounds.specs.Keeping.{lies_in_piece, own_columns, row_counts, rows_by_grain, sole, with_counts}
use Rattle.vc_net_bounds.specs.Raising.{at_grains, raised_by, with_rows}
use Rattle.vc_net_bounds.proofs.CappingLemmas.{sum_second}
use Rattle.vc_net_bounds.proofs.PlaceLemmas.{grains_there}
use Rattle.vc_net_bounds.proofs.RaisingLemmas.{map_same}

filter_same : {X : Type 0} (p q : X → Bool) → ((x : X) → p x ≡ q x) → (xs : List X) → filter p xs ≡ filter q xs
filter_same p q same [] = refl
filter_same p q same (x ∷ xs) =
    ap (λ b. cond b (x ∷ filter p xs) (filter p xs)) (same x)
    ∙ ap (λ ys. cond (q x) (x ∷ ys) ys) (filter_same p q same xs)

and_alone : (b : Bool) → (b && true) ≡ b
and_alone true = refl
and_alone false = refl

-- a row has the grain where its cell in the one column lies there
one_cell : (plan : Plan) (v : ℕ) (own : List Binding) (column : Column) (x : variable.Var) (g : ℕ) (row : List Value)
    → map (λ c. c.column) own ≡ column.column ∷ [] → slice_get plan.vars v ≡ Some x → x.domain ≡ column.domain
    → has_grain plan v own g row ≡ lies_in_grain plan column g row
one_cell plan v [] column x g row e at is = absurd (cc)
one_cell plan v (c ∷ d ∷ own) column x g row e at is = absurd (cc)
one_cell plan v (c ∷ []) column x g row e at is =
    let same : c.column ≡ column.column = cc in
    and_alone (cell_passes (λ a. grain_holds (grains_in (domain_of plan (slice_get plan.vars v))) a g)
    (slice_get row c.column))
    ∙ (ap (λ y. cell_passes (λ a. grain_holds (grains_in (domain_of plan y)) a g) (slice_get row c.column)) at
    ∙ (ap (λ d. cell_passes (λ a. grain_holds (grains_in (slice_get plan.domains d)) a g) (slice_get row c.column)) is
    ∙ ap (λ n. cell_passes (λ a. grain_holds (grains_in (slice_get plan.domains column.domain)) a g) (slice_get row n))
    same))

pub one_column : (plan : Plan) (v : ℕ) (columns : List Binding) (column : Column) (x : variable.Var)
    → own_columns v columns ≡ column.column ∷ [] → slice_get plan.vars v ≡ Some x → x.domain ≡ column.domain
    → row_counts plan column.table columns v ≡ column_counts plan column
one_column plan v columns column x e at is =
    ap (λ n. map (rows_by_grain plan column.table columns v) (numbers_below n))
    (ap (λ y. length (grains_in (domain_of plan y))) at ∙ ap (λ d. length (grains_in (slice_get plan.domains d))) is)
    ∙ map_same (rows_by_grain plan column.table columns v) (cells_by_grain plan column)
    (λ g. ap (λ rows. capped (length rows))
    (filter_same (has_grain plan v (columns_of v columns) g) (lies_in_grain plan column g)
    (λ row. one_cell plan v (columns_of v columns) column x g row e at is) (rows_of plan column.table)))
    (numbers_below (length (grains_in (slice_get plan.domains column.domain))))

-- a count that is read is that of its grain
read_at : (f : ℕ → ℕ) (a n i : ℕ) → i < n → slice_index_or (map f (range_with_len a n)) i 0 ≡ f (a + i)
read_at f a zero i below = absurd (omega (arith, below))
read_at f a (suc n) zero below = ap f (omega arith)
read_at f a (suc n) (suc i) below = read_at f (a + 1) n i (omega (arith, below)) ∙ ap f (omega arith)

-- columns are one where the test says so
pub same_column : (a b : Column) → ((a.table == b.table) && ((a.column == b.column) && (a.domain == b.domain))) ≡ true
    → a ≡ b
same_column a b e =
    let p = and_parts (a.table == b.table) ((a.column == b.column) && (a.domain == b.domain)) e in
    let q = and_parts (a.column == b.column) (a.domain == b.domain) p.1 in
    λ i. record {
      table = eqb-true a.table b.table p.0 i;
      column = eqb-true a.column b.column q.0 i;
      domain = eqb-true a.domain b.domain q.1 i;
    }

pub stored_counts : (plan : Plan) (column other : Column) (columns : List Column) (counts : List (List ℕ)) (place : ℕ)
    → counts ≡ map (column_counts plan) columns → slice_get columns place ≡ Some other → column ≡ other
    → slice_get counts place ≡ Some (column_counts plan column)
stored_counts plan column other columns counts place kept at is =
    ap (λ xs. slice_get xs place) kept
    ∙ (get_mapped (column_counts plan) columns place other at ∙ ap (λ c. Some (column_counts plan c)) (sym is))

pub counts_rows : (plan : Plan) (table : ℕ) (columns : List Binding) (v b : ℕ) (counts ns : List ℕ)
    → counts ≡ row_counts plan table columns v
    → raised_by (at_grains v (with_counts counts b)) (all_places plan) ns
    ≡ raised_by (at_grains v (with_rows plan table columns v b)) (all_places plan) ns
counts_rows plan table columns v b counts ns are =
    grains_there plan v (with_counts counts b) (with_rows plan table columns v b) same ns
  where
    same : (i : ℕ) → i < count_of plan v → with_counts counts b i ≡ with_rows plan table columns v b i
    same i below =
        ap (λ xs. capped (b + slice_index_or xs i 0)) are
        ∙ (ap (λ n. capped (b + n)) (read_at (rows_by_grain plan table columns v) 0 (count_of plan v) i below)
        ∙ (sum_second b (rows_with plan table columns v (0 + i))
        ∙ ap (λ k. capped (b + rows_with plan table columns v k)) (omega arith)))

pub counts_length : (plan : Plan) (table : ℕ) (columns : List Binding) (v : ℕ) (counts : List ℕ)
    → counts ≡ row_counts plan table columns v → length counts ≡ count_of plan v
counts_length plan table columns v counts are =
    ap length are
    ∙ (length-map (numbers_below (count_of plan v)) (rows_by_grain plan table columns v)
    ∙ length_range 0 (count_of plan v))

-- the first column of a variable's own, and another's
pub own_next : (v : ℕ) (column : Binding) (rest : List Binding) (all : List ℕ) → is_column_of v column ≡ true
    → all ≡ own_columns v (column ∷ rest) → all ≡ column.column ∷ own_columns v rest
own_next v column rest all own is =
    is ∙ ap (λ b. map (λ c. c.column) (cond b (column ∷ columns_of v rest) (columns_of v rest))) own

pub other_next : (v : ℕ) (column : Binding) (rest : List Binding) (met : Option ℕ) (all : List ℕ)
    → is_column_of v column ≡ false → all ≡ if_met met ++ own_columns v (column ∷ rest)
    → all ≡ if_met met ++ own_columns v rest
other_next v column rest met all other is =
    is ∙ ap (λ b. if_met met ++ map (λ c. c.column) (cond b (column ∷ columns_of v rest) (columns_of v rest))) other

-- a sole number is all of its list
pub sole_is_all : (ns : List ℕ) (n : ℕ) → sole ns ≡ Some n → ns ≡ n ∷ []
sole_is_all [] n e = absurd (cc)
sole_is_all (m ∷ []) n e = let same : m ≡ n = cc in ap (λ k. k ∷ []) same
sole_is_all (m ∷ k ∷ more) n e = absurd (cc)

-- the counts with those of one more column
pub kept_more : (plan : Plan) (column : Column) (columns : List Column) (counts : List (List ℕ)) (own : List ℕ)
    → counts ≡ map (column_counts plan) columns → own ≡ column_counts plan column
    → counts ++ own ∷ [] ≡ map (column_counts plan) (columns ++ column ∷ [])
kept_more plan column columns counts own kept is =
    ap (λ xs. xs ++ own ∷ []) kept
    ∙ (ap (λ x. map (column_counts plan) columns ++ x ∷ []) is
    ∙ sym (map-append (column_counts plan) columns (column ∷ [])))

pub columns_more : (there : Bool) (columns new : List Column) (column : Column)
    → new ≡ cond there columns (columns ++ column ∷ []) → not there ≡ true → new ≡ columns ++ column ∷ []
columns_more true columns new column e is = absurd (cc)
columns_more false columns new column e is = e

-- what is counted of cells is counted of their rows
filter_mapped : {X Y : Type 0} (f : X → Y) (q : Y → Bool) (xs : List X)
    → length (filter q (map f xs)) ≡ length (filter (λ x. q (f x)) xs)
filter_mapped f q [] = refl
filter_mapped f q (x ∷ xs) = by (q (f x)) (filter_mapped f q xs)
  where
    by : (b : Bool) → length (filter q (map f xs)) ≡ length (filter (λ y. q (f y)) xs)
        → length (cond b (f x ∷ filter q (map f xs)) (filter q (map f xs)))
        ≡ length (cond b (x ∷ filter (λ y. q (f y)) xs) (filter (λ y. q (f y)) xs))
    by true rest = omega (arith, rest)
    by false rest = rest

pub counted_next : (plan : Plan) (v g n : ℕ) (column : Column) (piece : Option Piece) (cells : List (Option Value))
    (counts next : List ℕ)
    → grains_of plan v ≡ grains_in (slice_get plan.domains column.domain) → piece ≡ slice_get (grains_of plan v) g
    → cells ≡ cells_of plan column → n ≡ capped (length (filter (lies_in_piece piece) cells))
    → counts ≡ map (cells_by_grain plan column) (numbers_below g) → next ≡ counts ++ n ∷ []
    → next ≡ map (cells_by_grain plan column) (numbers_below (g + 1))
counted_next plan v g n column piece cells counts next grains p c count are pushed =
    pushed
    ∙ (ap (λ xs. xs ++ n ∷ []) are
    ∙ (ap (λ k. map (cells_by_grain plan column) (numbers_below g) ++ k ∷ []) own
    ∙ sym (mapped_next (cells_by_grain plan column) g)))
  where
    own : n ≡ cells_by_grain plan column g
    own =
        count
        ∙ (ap (λ q. capped (length (filter (lies_in_piece q) cells))) (p ∙ ap (λ gs. slice_get gs g) grains)
        ∙ (ap (λ xs. capped (length
        (filter (lies_in_piece (slice_get (grains_in (slice_get plan.domains column.domain)) g)) xs))) c
        ∙ ap capped (filter_mapped (cell_of column)
        (lies_in_piece (slice_get (grains_in (slice_get plan.domains column.domain)) g))
        (rows_of plan column.table))))

pub counted_all : (plan : Plan) (v g : ℕ) (column : Column) (counts : List ℕ)
    → grains_of plan v ≡ grains_in (slice_get plan.domains column.domain) → count_of plan v ≡ g
    → counts ≡ map (cells_by_grain plan column) (numbers_below g) → counts ≡ column_counts plan column
counted_all plan v g column counts grains all are =
    are ∙ ap (λ k. map (cells_by_grain plan column) (numbers_below k)) (sym all ∙ ap length grains)

pub own_grains : (plan : Plan) (v d : ℕ) (x : variable.Var) → slice_get plan.vars v ≡ Some x → x.domain ≡ d
    → grains_of plan v ≡ grains_in (slice_get plan.domains d)
own_grains plan v d x at is =
    ap (λ y. grains_in (domain_of plan y)) at ∙ ap (λ e. grains_in (slice_get plan.domains e)) is
