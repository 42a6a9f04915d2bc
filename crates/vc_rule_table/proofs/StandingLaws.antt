-- What each premise of what is said passes; that each stands, and is of a variable that the call is given.
use Rattle.std.proofs.Common.{◌≡◌, ℕ, Bool, true, false, cond, not, ◌&&◌, List, [], ◌∷◌, map, refl, sym}
use Rattle.std.proofs.Common.{◌∙◌, ap, subst}
use Rattle.std.specs.Prelude.{flat_map, slice_get, Option, None, Some}
use Rattle.std.specs.List.{filter, find, list_any, list_all}
use Rattle.std.proofs.lemmas.Bool.{and_from, or_parts}
use Rattle.std.proofs.lemmas.List.Folds.{list_all-append}
use Rattle.vc_value.specs.declared.value.Value.{Value}
use Rattle.vc_plan.specs.declared.atoms.Atom.{Atom}
use Rattle.vc_plan.specs.declared.atoms.Atom.TheVariants.{Out, Is}
use Rattle.vc_plan.specs.declared.plans.Plan.{Plan}
use Rattle.vc_plan.specs.declared.rules.Binding.{Binding}
use Rattle.vc_plan.specs.declared.rules.Operand.{Operand}
use Rattle.vc_plan.specs.declared.rules.Operand.TheVariants.{Constant, Variable}
use Rattle.vc_plan.specs.declared.rules.Rule.{Rule}
use Rattle.vc_plan.specs.Domains.{numbers_below, count_of, is_restrictable, is_grain_with}
use Rattle.vc_plan.specs.Pieces.{lies_in}
use Rattle.vc_plan.specs.Seen.{Seen, says, is_left_by}
use Rattle.vc_plan.specs.TableRows.{rows_of, cell_passes, fits, has_left, is_possible, is_possible_in}
use Rattle.vc_plan.specs.TableRows.{columns_of, other_columns, has_grain, missing_grains, agreed, narrowed}
use Rattle.vc_plan.proofs.PlanLaws.Lists.{all_filter}
use Rattle.vc_rule_yield.specs.Yielding.{Conclusion}
use Rattle.vc_rule_premises.specs.Saying.{concluding, clash_when}
use Rattle.vc_rule_premises.specs.Sufficing.{SaysAll, each_premise}
use Rattle.vc_rule_premises.proofs.SufficingLaws.{value_says}
use Rattle.vc_rule_table.specs.Laws.{TableStands}
use Rattle.vc_rule_table.specs.Reasons.{cell_reasons, operand_reasons, misfit_reasons, row_reasons}
use Rattle.vc_rule_table.specs.Reasons.{rows_reasons}
use Rattle.vc_rule_table.specs.TableSaid.{grain_out, cell_agreed, concluded_for, concluded_newly}
use Rattle.vc_rule_table.specs.TableSaid.{table_said}

-- what all of each list pass, all of the lists together pass
pub all_flat : {X A : Type 0} (test : A → Bool) (f : X → List A) → ((x : X) → list_all test (f x) ≡ true)
    → (xs : List X) → list_all test (flat_map f xs) ≡ true
all_flat test f h [] = refl
all_flat test f h (x ∷ xs) =
    list_all-append test (f x) (flat_map f xs)
    ∙ and_from (list_all test (f x)) (list_all test (flat_map f xs)) (h x) (all_flat test f h xs)

pub all_mapped : {X A : Type 0} (test : A → Bool) (f : X → A) → ((x : X) → test (f x) ≡ true) → (xs : List X)
    → list_all test (map f xs) ≡ true
all_mapped test f h [] = refl
all_mapped test f h (x ∷ xs) = and_from (test (f x)) (list_all test (map f xs)) (h x) (all_mapped test f h xs)

-- what is found fails the test that is asked for
found_fails : {A : Type 0} (p : A → Bool) (xs : List A) (x : A) → find (λ y. not (p y)) xs ≡ Some x → p x ≡ false
found_fails p [] x e = absurd (cc)
found_fails p (y ∷ xs) x e =
    elim (p y) as (λ b. p y ≡ b → cond (not b) (Some y) (find (λ z. not (p z)) xs) ≡ Some x → p x ≡ false) [
      | true ↦ λ q k. found_fails p xs x k
      | false ↦ λ q k. let same : y ≡ x = cc in subst (λ z. p z ≡ false) same q
    ] refl e

-- where the reasons of each row pass a test, all premises do
pub each_passes : (test : Atom → Bool) (plan : Plan) (seen : Seen) (rule : Rule) (table : ℕ) (columns : List Binding)
    → ((row : List Value) → list_all test (row_reasons plan seen columns row) ≡ true)
    → ((v : ℕ) (row : List Value) → list_all test (row_reasons plan seen (other_columns v columns) row) ≡ true)
    → each_premise test (table_said plan seen rule table columns) ≡ true
each_passes test plan seen rule table columns whole others =
    elim (not (list_any (is_possible_in plan seen columns) rows)) as (λ b.
    each_premise test (clash_when b (rows_reasons plan seen columns rows)
    (concluding (flat_map (concluded_newly plan seen rows columns) (narrowed rule columns)))) ≡ true) [
      | true ↦ all_flat test (row_reasons plan seen columns) whole rows
      | false ↦ all_flat passes (concluded_newly plan seen rows columns) newly (narrowed rule columns)
    ]
  where
    rows : List (List Value)
    rows = rows_of plan table

    passes : Conclusion → Bool
    passes c = list_all test c.premises

    newly : (v : ℕ) → list_all passes (concluded_newly plan seen rows columns v) ≡ true
    newly v =
        let those = row_reasons plan seen (other_columns v columns) in
        let possible = filter (is_possible_in plan seen (other_columns v columns)) rows in
        let own = columns_of v columns in
        let grains : list_all passes (map (grain_out plan seen rows columns v) (missing_grains plan v own possible))
        ≡ true =
        all_mapped passes (grain_out plan seen rows columns v)
        (λ g. all_flat test those (others v) (filter (has_grain plan v own g) rows))
        (missing_grains plan v own possible) in
        let cells : list_all passes (map (cell_agreed plan seen rows columns v) (agreed plan v own possible)) ≡ true =
        all_mapped passes (cell_agreed plan seen rows columns v) (λ a. all_flat test those (others v) rows)
        (agreed plan v own possible) in
        all_filter passes (λ c. not (says seen c.atom)) (concluded_for plan seen rows columns v)
        (elim (is_restrictable plan v) as (λ b.
        list_all passes (cond b (map (grain_out plan seen rows columns v) (missing_grains plan v own possible))
        (map (cell_agreed plan seen rows columns v) (agreed plan v own possible))) ≡ true) [
          | true ↦ grains
          | false ↦ cells
        ])

-- the grains that hold a cell are out where none of them is left
outs_said : (seen : Seen) (v : ℕ) (holds : ℕ → Bool) (gs : List ℕ)
    → list_any (λ g. not (seen.out v g) && holds g) gs ≡ false
    → list_all (says seen) (map (Out v) (filter holds gs)) ≡ true
outs_said seen v holds [] e = refl
outs_said seen v holds (g ∷ gs) e =
    let both : ((not (seen.out v g) && holds g) ≡ false) × (list_any (λ h. not (seen.out v h) && holds h) gs ≡ false) =
    or_parts (not (seen.out v g) && holds g) (list_any (λ h. not (seen.out v h) && holds h) gs) e in
    let rest = outs_said seen v holds gs both.1 in
    elim (holds g) as (λ b. (not (seen.out v g) && b) ≡ false
    → list_all (says seen) (map (Out v) (cond b (g ∷ filter holds gs) (filter holds gs))) ≡ true) [
      | true ↦ λ k. and_from (seen.out v g) (list_all (says seen) (map (Out v) (filter holds gs)))
          (is_out (seen.out v g) k) rest
      | false ↦ λ k. rest
    ] both.0
  where
    is_out : (b : Bool) → (not b && true) ≡ false → b ≡ true
    is_out true k = refl
    is_out false k = absurd (cc)

cell_stands : (plan : Plan) (seen : Seen) (v : ℕ) (a : Value) → has_left plan seen v a ≡ false
    → SaysAll seen (cell_reasons plan v a (seen.value v))
cell_stands plan seen v a e = by (seen.value v) refl
  where
    by : (o : Option Value) → seen.value v ≡ o → SaysAll seen (cell_reasons plan v a o)
    by None k =
        outs_said seen v (is_grain_with plan v (lies_in a)) (numbers_below (count_of plan v))
        (sym (ap (λ (o : Option Value). list_any (λ g. is_left_by plan seen v g o && is_grain_with plan v (lies_in a) g)
        (numbers_below (count_of plan v))) k) ∙ e)
    by (Some b) k = and_from (says seen (Is v b)) true (value_says seen v b k) refl

operand_stands : (plan : Plan) (seen : Seen) (operand : Operand) (cell : Option Value)
    → cell_passes (fits plan seen operand) cell ≡ false
    → SaysAll seen (operand_reasons plan seen operand cell)
operand_stands plan seen (Constant b) cell e = refl
operand_stands plan seen (Variable v) None e = refl
operand_stands plan seen (Variable v) (Some a) e = cell_stands plan seen v a e

pub row_stands : (plan : Plan) (seen : Seen) (columns : List Binding) (row : List Value)
    → SaysAll seen (row_reasons plan seen columns row)
row_stands plan seen columns row = by (find (λ column. not (is_possible plan seen row column)) columns) refl
  where
    by : (o : Option Binding) → find (λ column. not (is_possible plan seen row column)) columns ≡ o
        → SaysAll seen (misfit_reasons plan seen row o)
    by None e = refl
    by (Some column) e =
        operand_stands plan seen column.operand (slice_get row column.column)
        (found_fails (is_possible plan seen row) columns column e)

pub table_stands : TableStands
table_stands plan seen rule table columns =
    each_passes (says seen) plan seen rule table columns (row_stands plan seen columns)
    (λ v row. row_stands plan seen (other_columns v columns) row)
