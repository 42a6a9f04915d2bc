-- Each premise of what is said is of a variable that a column is given.
use Rattle.std.proofs.Common.{◌≡◌, ℕ, Bool, true, false, cond, not, List, [], ◌∷◌, ◌++◌, map, refl}
use Rattle.std.proofs.Common.{subst}
use Rattle.std.specs.Prelude.{flat_map, slice_get, Option, None, Some}
use Rattle.std.specs.List.{filter, find, list_all}
use Rattle.std.proofs.lemmas.Bool.{and_parts, and_from}
use Rattle.vc_base.proofs.SetLaws.{has_first, has_more}
use Rattle.vc_value.specs.declared.value.Value.{Value}
use Rattle.vc_plan.specs.declared.atoms.Atom.{Atom}
use Rattle.vc_plan.specs.declared.atoms.Atom.TheVariants.{Out}
use Rattle.vc_plan.specs.declared.plans.Plan.{Plan}
use Rattle.vc_plan.specs.declared.rules.Binding.{Binding}
use Rattle.vc_plan.specs.declared.rules.Operand.{Operand}
use Rattle.vc_plan.specs.declared.rules.Operand.TheVariants.{Constant, Variable}
use Rattle.vc_plan.specs.Domains.{numbers_below, count_of, is_grain_with}
use Rattle.vc_plan.specs.Pieces.{lies_in}
use Rattle.vc_plan.specs.Seen.{Seen}
use Rattle.vc_plan.specs.TableRows.{is_possible, is_column_of, other_columns}
use Rattle.vc_plan.proofs.PlanLaws.Lists.{all_filter}
use Rattle.vc_plan_reasons.specs.Things.{Thing, var_at, same_thing, has_thing, thing_of, vars_of_operand}
use Rattle.vc_plan_reasons.specs.Things.{vars_of_column}
use Rattle.vc_plan_reasons.proofs.ReasonLaws.Reaching.{thing_exact, thing_itself}
use Rattle.vc_rule_table.specs.Laws.{TableIsRead}
use Rattle.vc_rule_table.specs.Reasons.{cell_reasons, operand_reasons, misfit_reasons, row_reasons}
use Rattle.vc_rule_table.proofs.StandingLaws.{all_mapped, each_passes}

-- whether an atom is of one of the things, and whether what a column is given is among them
abbrev is_of : List Thing → Atom → Bool
is_of things a = has_thing things (thing_of a)

abbrev are_among : List Thing → List ℕ → Bool
are_among things vs = list_all (λ v. has_thing things (var_at v)) vs

cell_read : (things : List Thing) (plan : Plan) (v : ℕ) (a : Value) (o : Option Value)
    → has_thing things (var_at v) ≡ true
    → list_all (is_of things) (cell_reasons plan v a o) ≡ true
cell_read things plan v a None h =
    all_mapped (is_of things) (Out v) (λ g. h)
    (filter (is_grain_with plan v (lies_in a)) (numbers_below (count_of plan v)))
cell_read things plan v a (Some b) h = and_from (has_thing things (var_at v)) true h refl

operand_read : (things : List Thing) (plan : Plan) (seen : Seen) (operand : Operand) (cell : Option Value)
    → are_among things (vars_of_operand operand) ≡ true
    → list_all (is_of things) (operand_reasons plan seen operand cell) ≡ true
operand_read things plan seen (Constant b) cell h = refl
operand_read things plan seen (Variable v) None h = refl
operand_read things plan seen (Variable v) (Some a) h =
    let p : (has_thing things (var_at v) ≡ true) × (true ≡ true) = and_parts (has_thing things (var_at v)) true h in
    cell_read things plan v a (seen.value v) p.0

-- what all of a list pass, what is found passes
found_passes : {A : Type 0} (p q : A → Bool) (xs : List A) (x : A) → find p xs ≡ Some x → list_all q xs ≡ true
    → q x ≡ true
found_passes p q [] x e h = absurd (cc)
found_passes p q (y ∷ xs) x e h =
    let parts : (q y ≡ true) × (list_all q xs ≡ true) = and_parts (q y) (list_all q xs) h in
    elim (p y) as (λ b. cond b (Some y) (find p xs) ≡ Some x → q x ≡ true) [
      | true ↦ λ k. let same : y ≡ x = cc in subst (λ z. q z ≡ true) same parts.0
      | false ↦ λ k. found_passes p q xs x k parts.1
    ] e

row_read : (things : List Thing) (plan : Plan) (seen : Seen) (columns : List Binding) (row : List Value)
    → list_all (λ column. are_among things (vars_of_column column)) columns ≡ true
    → list_all (is_of things) (row_reasons plan seen columns row) ≡ true
row_read things plan seen columns row h = by (find (λ column. not (is_possible plan seen row column)) columns) refl
  where
    by : (o : Option Binding) → find (λ column. not (is_possible plan seen row column)) columns ≡ o
        → list_all (is_of things) (misfit_reasons plan seen row o) ≡ true
    by None e = refl
    by (Some column) e =
        operand_read things plan seen column.operand (slice_get row column.column)
        (found_passes (λ c. not (is_possible plan seen row c)) (λ c. are_among things (vars_of_column c)) columns column
        e h)

-- each column's variable is among those of all
given_first : (things : List Thing) (operand : Operand) (vs : List ℕ)
    → ((t : Thing) → has_thing (map var_at (vars_of_operand operand ++ vs)) t ≡ true → has_thing things t ≡ true)
    → (are_among things (vars_of_operand operand) ≡ true)
    × ((t : Thing) → has_thing (map var_at vs) t ≡ true → has_thing things t ≡ true)
given_first things (Constant b) vs within = (refl, within)
given_first things (Variable v) vs within = (
  and_from (has_thing things (var_at v)) true
      (within (var_at v) (has_first same_thing thing_exact thing_itself (var_at v) (map var_at vs))) refl,
  λ t h. within t (has_more same_thing thing_exact thing_itself (var_at v) (map var_at vs) t h),
)

all_given : (things : List Thing) (columns : List Binding)
    → ((t : Thing) → has_thing (map var_at (flat_map vars_of_column columns)) t ≡ true → has_thing things t ≡ true)
    → list_all (λ column. are_among things (vars_of_column column)) columns ≡ true
all_given things [] within = refl
all_given things (column ∷ columns) within =
    let p = given_first things column.operand (flat_map vars_of_column columns) within in
    and_from (are_among things (vars_of_column column)) (list_all (λ c. are_among things (vars_of_column c)) columns)
    p.0 (all_given things columns p.1)

pub table_is_read : TableIsRead
table_is_read plan seen rule table columns =
    let things = map var_at (flat_map vars_of_column columns) in
    let given : list_all (λ column. are_among things (vars_of_column column)) columns ≡ true
    = all_given things columns (λ t h. h) in
    each_passes (is_of things) plan seen rule table columns (λ row. row_read things plan seen columns row given)
    (λ v row. row_read things plan seen (other_columns v columns) row
    (all_filter (λ c. are_among things (vars_of_column c)) (λ column. not (is_column_of v column)) columns given))
