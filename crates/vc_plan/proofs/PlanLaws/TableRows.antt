-- What a table call gives stays or grows with the set.
use Rattle.std.proofs.Common.{◌≡◌, ℕ, Bool, true, false, cond, not, ◌&&◌, List, [], ◌∷◌, refl, sym, ◌∙◌, ap, subst}
use Rattle.std.specs.Prelude.{Option, None, Some, slice_get}
use Rattle.std.specs.List.{filter, list_any, list_all}
use Rattle.std.proofs.lemmas.Bool.{and_parts, and_from, not-false}
use Rattle.vc_base.specs.Rounds.{atoms}
use Rattle.vc_value.specs.declared.value.Value.{Value}
use Rattle.vc_plan.specs.declared.atoms.Atom.{Atom}
use Rattle.vc_plan.specs.declared.atoms.Atom.TheVariants.{Out, Is}
use Rattle.vc_plan.specs.declared.plans.Plan.{Plan}
use Rattle.vc_plan.specs.declared.rules.Binding.{Binding}
use Rattle.vc_plan.specs.declared.rules.Operand.{Operand}
use Rattle.vc_plan.specs.declared.rules.Operand.TheVariants.{Constant, Variable}
use Rattle.vc_plan.specs.declared.rules.Rule.{Rule}
use Rattle.vc_plan.specs.Answers.{nothing, gathered}
use Rattle.vc_plan.specs.Domains.{numbers_below, grains_of, count_of, is_restrictable, is_grain_with}
use Rattle.vc_plan.specs.Pieces.{same_value, lies_in, lies_in_some}
use Rattle.vc_plan.specs.Seen.{Seen, is_left}
use Rattle.vc_plan.specs.TableRows.{rows_of, cell_passes, fits, is_possible, is_possible_in, is_column_of, columns_of}
use Rattle.vc_plan.specs.TableRows.{other_columns, has_grain, has_cell, value_if, agreed, for_variable, narrowed}
use Rattle.vc_plan.specs.TableRows.{by_table}
use Rattle.vc_plan.proofs.PlanLaws.Answers.{Below, below_self, below_nothing, below_clash_if, below_gathered}
use Rattle.vc_plan.proofs.PlanLaws.Answers.{below_mapped}
use Rattle.vc_plan.proofs.PlanLaws.Atoms.{value_exact}
use Rattle.vc_plan.proofs.PlanLaws.Extending.{Extends}
use Rattle.vc_plan.proofs.PlanLaws.Lists.{Implies, not_grows, all_grows, any_grows, all_filter, all_fewer, any_more}
use Rattle.vc_plan.proofs.PlanLaws.Lists.{is_some_of, some_filter}

cell_grows : (p q : Value → Bool) → Implies p q → (o : Option Value) → cell_passes p o ≡ true → cell_passes q o ≡ true
cell_grows p q f None e = e
cell_grows p q f (Some a) e = f a e

-- the cell of a row that has this one
pub cell_is : (a : Value) (o : Option Value) → cell_passes (same_value a) o ≡ true → o ≡ Some a
cell_is a None e = absurd (cc)
cell_is a (Some b) e = ap Some (sym (value_exact a b e))

-- what fits at the larger set fitted at the smaller
fits_before : (plan : Plan) (s t : Seen) → Extends plan s t → (operand : Operand)
    → Implies (fits plan t operand) (fits plan s operand)
fits_before plan s t x (Constant b) a h = h
fits_before plan s t x (Variable v) a h =
    any_grows (λ g. is_left plan t v g && is_grain_with plan v (lies_in a) g)
    (λ g. is_left plan s v g && is_grain_with plan v (lies_in a) g)
    (λ g k.
    let p : (is_left plan t v g ≡ true) × (is_grain_with plan v (lies_in a) g ≡ true)
    = and_parts (is_left plan t v g) (is_grain_with plan v (lies_in a) g) k in
    and_from (is_left plan s v g) (is_grain_with plan v (lies_in a) g) (x.left v g p.0) p.1)
    (numbers_below (count_of plan v)) h

possible_before : (plan : Plan) (s t : Seen) → Extends plan s t → (columns : List Binding)
    → Implies (is_possible_in plan t columns) (is_possible_in plan s columns)
possible_before plan s t x columns row h =
    all_grows (is_possible plan t row) (is_possible plan s row)
    (λ column k. cell_grows (fits plan t column.operand) (fits plan s column.operand)
    (fits_before plan s t x column.operand) (slice_get row column.column) k)
    columns h

-- the cell that all rows have, all of fewer rows have, if there are any
agreed_if : (test later : Value → Bool) (v : ℕ) (o p : Option Value)
    → ((a : Value) → o ≡ Some a → test a ≡ true → (p ≡ Some a) × (later a ≡ true))
    → Below (atoms (value_if test v o)) (atoms (value_if later v p))
agreed_if test later v None p f = below_nothing (atoms (value_if later v p))
agreed_if test later v (Some a) p f = by (test a) refl
  where
    by : (b : Bool) → test a ≡ b → Below (atoms (cond b (Is v a ∷ []) [])) (atoms (value_if later v p))
    by false e = below_nothing (atoms (value_if later v p))
    by true e =
        let r : (p ≡ Some a) × (later a ≡ true) = f a refl e in
        let same : value_if later v p ≡ Is v a ∷ []
        = ap (value_if later v) r.0 ∙ ap (λ b. cond b (Is v a ∷ []) []) r.1 in
        subst (λ z. Below (atoms (Is v a ∷ [])) (atoms z)) (sym same) (below_self (atoms (Is v a ∷ [])))

agreed_below : (plan : Plan) (v : ℕ) (own : List Binding) (rows later : List (List Value))
    → ((p : List Value → Bool) → list_all p rows ≡ true → list_all p later ≡ true) → is_some_of later ≡ true
    → Below (atoms (agreed plan v own rows)) (atoms (agreed plan v own later))
agreed_below plan v own [] later f some = below_nothing (atoms (agreed plan v own later))
agreed_below plan v own (row ∷ rows) [] f some = absurd (cc)
agreed_below plan v [] (row ∷ rows) (row' ∷ later) f some = below_nothing nothing
agreed_below plan v (column ∷ own) (row ∷ rows) (row' ∷ later) f some =
    let columns = column ∷ own in
    agreed_if (λ a. list_all (has_cell columns a) (row ∷ rows) && lies_in_some (grains_of plan v) a)
    (λ a. list_all (has_cell columns a) (row' ∷ later) && lies_in_some (grains_of plan v) a) v
    (slice_get row column.column) (slice_get row' column.column)
    (λ a e h.
    let p : (list_all (has_cell columns a) (row ∷ rows) ≡ true) × (lies_in_some (grains_of plan v) a ≡ true)
    = and_parts (list_all (has_cell columns a) (row ∷ rows)) (lies_in_some (grains_of plan v) a) h in
    let all : list_all (has_cell columns a) (row' ∷ later) ≡ true = f (has_cell columns a) p.0 in
    let first : (has_cell columns a row' ≡ true) × (list_all (has_cell columns a) later ≡ true)
    = and_parts (has_cell columns a row') (list_all (has_cell columns a) later) all in
    let cell : (cell_passes (same_value a) (slice_get row' column.column) ≡ true)
    × (list_all (λ c. cell_passes (same_value a) (slice_get row' c.column)) own ≡ true)
    = and_parts (cell_passes (same_value a) (slice_get row' column.column))
    (list_all (λ c. cell_passes (same_value a) (slice_get row' c.column)) own) first.0 in (
      cell_is a (slice_get row' column.column) cell.0,
      and_from (list_all (has_cell columns a) (row' ∷ later)) (lies_in_some (grains_of plan v) a) all p.1,
    ))

-- a row that is possible in all columns is possible in the others of a variable
pub others_possible : (plan : Plan) (t : Seen) (v : ℕ) (columns : List Binding)
    → Implies (is_possible_in plan t columns) (is_possible_in plan t (other_columns v columns))
others_possible plan t v columns row h =
    all_filter (is_possible plan t row) (λ column. not (is_column_of v column)) columns h

for_variable_below : (plan : Plan) (s t : Seen) → Extends plan s t → (table : ℕ) (columns : List Binding)
    → list_any (is_possible_in plan t columns) (rows_of plan table) ≡ true → (v : ℕ)
    → Below (for_variable plan s table columns v) (for_variable plan t table columns v)
for_variable_below plan s t x table columns some v =
    let own = columns_of v columns in
    let before = is_possible_in plan s (other_columns v columns) in
    let now = is_possible_in plan t (other_columns v columns) in
    let fewer : Implies now before = possible_before plan s t x (other_columns v columns) in
    by (is_restrictable plan v)
    (below_mapped (Out v) (λ g. not (list_any (has_grain plan v own g) (filter before (rows_of plan table))))
    (λ g. not (list_any (has_grain plan v own g) (filter now (rows_of plan table))))
    (λ g h. not_grows (list_any (has_grain plan v own g) (filter before (rows_of plan table)))
    (list_any (has_grain plan v own g) (filter now (rows_of plan table)))
    (any_more (has_grain plan v own g) now before fewer (rows_of plan table)) h)
    (numbers_below (count_of plan v)))
    (agreed_below plan v own (filter before (rows_of plan table)) (filter now (rows_of plan table))
    (λ p h. all_fewer p before now fewer (rows_of plan table) h)
    (some_filter (is_possible_in plan t columns) now (others_possible plan t v columns) (rows_of plan table) some))
  where
    by : (b : Bool) {xs ys zs ws : List Atom} → Below (atoms xs) (atoms zs) → Below (atoms ys) (atoms ws)
        → Below (atoms (cond b xs ys)) (atoms (cond b zs ws))
    by true f g = f
    by false f g = g

pub table_below : (plan : Plan) (s t : Seen) → Extends plan s t → (rule : Rule) (table : ℕ) (columns : List Binding)
    → Below (by_table plan s rule table columns) (by_table plan t rule table columns)
table_below plan s t x rule table columns =
    let before = list_any (is_possible_in plan s columns) (rows_of plan table) in
    let now = list_any (is_possible_in plan t columns) (rows_of plan table) in
    below_clash_if (not before) (not now) (gathered (for_variable plan s table columns) (narrowed rule columns))
    (gathered (for_variable plan t table columns) (narrowed rule columns))
    (not_grows before now
    (any_grows (is_possible_in plan t columns) (is_possible_in plan s columns) (possible_before plan s t x columns)
    (rows_of plan table)))
    (λ e. below_gathered (for_variable plan s table columns) (for_variable plan t table columns)
    (for_variable_below plan s t x table columns (not-false now e)) (narrowed rule columns))
