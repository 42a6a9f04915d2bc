-- What is said, without what it follows from, is what the table call gives.
use Rattle.std.proofs.Common.{◌≡◌, ℕ, true, false, cond, not, List, [], ◌∷◌, ◌++◌, map, refl, sym, ◌∙◌, ap}
use Rattle.std.specs.Prelude.{if◌then◌else◌, flat_map}
use Rattle.std.specs.List.{filter, list_any}
use Rattle.std.proofs.lemmas.List.{map-append}
use Rattle.std.proofs.lemmas.List.Elements.{filter-append}
use Rattle.vc_base.specs.Rounds.{atoms}
use Rattle.vc_value.specs.declared.value.Value.{Value}
use Rattle.vc_plan.specs.declared.atoms.Atom.{Atom}
use Rattle.vc_plan.specs.declared.atoms.Atom.TheVariants.{Out}
use Rattle.vc_plan.specs.declared.plans.Plan.{Plan}
use Rattle.vc_plan.specs.declared.rules.Binding.{Binding}
use Rattle.vc_plan.specs.Answers.{clash_if, beside, gathered, fresh}
use Rattle.vc_plan.specs.Domains.{is_restrictable}
use Rattle.vc_plan.specs.Seen.{Seen, says}
use Rattle.vc_plan.specs.TableRows.{rows_of, is_possible_in, columns_of, other_columns, rows_for, missing_grains}
use Rattle.vc_plan.specs.TableRows.{agreed, for_variable, narrowed}
use Rattle.vc_rule_yield.specs.Yielding.{Conclusion}
use Rattle.vc_rule_premises.specs.Saying.{concluding, clash_when, given_of, conclusion_from}
use Rattle.vc_rule_table.specs.Laws.{TableIsSaid}
use Rattle.vc_rule_table.specs.Reasons.{rows_reasons}
use Rattle.vc_rule_table.specs.TableSaid.{grain_out, cell_agreed, concluded_for, new_conclusions, concluded_newly}

-- what conclusions conclude
abbrev atoms_said : List Conclusion → List Atom
atoms_said conclusions = map (λ conclusion. conclusion.atom) conclusions

grains_said : (plan : Plan) (seen : Seen) (rows : List (List Value)) (columns : List Binding) (v : ℕ) (gs : List ℕ)
    → atoms_said (map (grain_out plan seen rows columns v) gs) ≡ map (Out v) gs
grains_said plan seen rows columns v [] = refl
grains_said plan seen rows columns v (g ∷ gs) = ap (λ xs. Out v g ∷ xs) (grains_said plan seen rows columns v gs)

cells_said : (premises : List Atom) (given : List Atom) → atoms_said (map (conclusion_from premises) given) ≡ given
cells_said premises [] = refl
cells_said premises (a ∷ given) = ap (λ xs. a ∷ xs) (cells_said premises given)

-- what a variable's conclusions conclude
abbrev pub given_for : Plan → Seen → ℕ → List Binding → ℕ → List Atom
given_for plan seen table columns v =
    let rows = rows_for plan seen table columns v in
    let own = columns_of v columns in
    if is_restrictable plan v then map (Out v) (missing_grains plan v own rows) else agreed plan v own rows

variable_said : (plan : Plan) (seen : Seen) (table : ℕ) (columns : List Binding) (v : ℕ)
    → atoms_said (concluded_for plan seen (rows_of plan table) columns v) ≡ given_for plan seen table columns v
variable_said plan seen table columns v =
    let rows = rows_for plan seen table columns v in
    let own = columns_of v columns in
    let outs = missing_grains plan v own rows in
    let cells = agreed plan v own rows in
    elim (is_restrictable plan v) as (λ b.
    atoms_said (cond b (map (grain_out plan seen (rows_of plan table) columns v) outs)
    (map (cell_agreed plan seen (rows_of plan table) columns v) cells))
    ≡ cond b (map (Out v) outs) cells) [
      | true ↦ grains_said plan seen (rows_of plan table) columns v outs
      | false ↦ cells_said (rows_reasons plan seen (other_columns v columns) (rows_of plan table)) cells
    ]

-- the new conclusions conclude what is new
new_said : (seen : Seen) (cs : List Conclusion)
    → atoms_said (new_conclusions seen cs) ≡ filter (λ a. not (says seen a)) (atoms_said cs)
new_said seen [] = refl
new_said seen (c ∷ cs) =
    elim (says seen c.atom) as (λ b. atoms_said (cond (not b) (c ∷ new_conclusions seen cs) (new_conclusions seen cs))
    ≡ cond (not b) (c.atom ∷ filter (λ a. not (says seen a)) (atoms_said cs))
    (filter (λ a. not (says seen a)) (atoms_said cs))) [
      | true ↦ new_said seen cs
      | false ↦ ap (λ xs. c.atom ∷ xs) (new_said seen cs)
    ]

-- lists of atoms that are gathered
pub gathered_atoms : (h : ℕ → List Atom) (vs : List ℕ) → gathered (λ v. atoms (h v)) vs ≡ atoms (flat_map h vs)
gathered_atoms h [] = refl
gathered_atoms h (v ∷ vs) = ap (beside (atoms (h v))) (gathered_atoms h vs)

all_said : (plan : Plan) (seen : Seen) (table : ℕ) (columns : List Binding) (vs : List ℕ)
    → atoms_said (flat_map (concluded_newly plan seen (rows_of plan table) columns) vs)
    ≡ filter (λ a. not (says seen a)) (flat_map (given_for plan seen table columns) vs)
all_said plan seen table columns [] = refl
all_said plan seen table columns (v ∷ vs) =
    let newly = concluded_newly plan seen (rows_of plan table) columns in
    let first : atoms_said (newly v) ≡ filter (λ a. not (says seen a)) (given_for plan seen table columns v) =
    new_said seen (concluded_for plan seen (rows_of plan table) columns v)
    ∙ ap (filter (λ a. not (says seen a))) (variable_said plan seen table columns v) in
    map-append (λ (conclusion : Conclusion). conclusion.atom) (newly v) (flat_map newly vs)
    ∙ (ap (λ xs. xs ++ atoms_said (flat_map newly vs)) first
    ∙ (ap (λ xs. filter (λ a. not (says seen a)) (given_for plan seen table columns v) ++ xs)
    (all_said plan seen table columns vs)
    ∙ sym (filter-append (λ a. not (says seen a)) (given_for plan seen table columns v)
    (flat_map (given_for plan seen table columns) vs))))

pub table_is_said : TableIsSaid
table_is_said plan seen rule table columns =
    let rows = rows_of plan table in
    let vs = narrowed rule columns in
    let newly = concluded_newly plan seen rows columns in
    let given = gathered (for_variable plan seen table columns) vs in
    let said : given_of (concluding (flat_map newly vs)) ≡ fresh seen given =
    ap atoms (all_said plan seen table columns vs)
    ∙ sym (ap (fresh seen) (gathered_atoms (given_for plan seen table columns) vs)) in
    elim (not (list_any (is_possible_in plan seen columns) rows)) as (λ b.
    given_of (clash_when b (rows_reasons plan seen columns rows) (concluding (flat_map newly vs)))
    ≡ fresh seen (clash_if b given)) [
      | true ↦ refl
      | false ↦ said
    ]
