-- The first possible row decides on which cell rows may agree.
use Rattle.std.proofs.Common.{◌≡◌, ℕ, Bool, true, false, cond, not, List, [], ◌∷◌, map, refl, sym, ◌∙◌, ap}
use Rattle.std.specs.Prelude.{None, Some}
use Rattle.std.specs.List.{filter, find}
use Rattle.vc_value.specs.declared.value.Value.{Value}
use Rattle.vc_plan.specs.declared.atoms.Atom.{Atom}
use Rattle.vc_plan.specs.declared.plans.Plan.{Plan}
use Rattle.vc_plan.specs.declared.rules.Binding.{Binding}
use Rattle.vc_plan.specs.Seen.{Seen, says}
use Rattle.vc_plan.specs.TableRows.{first_cell, value_if, agreed}
use Rattle.vc_rule_premises.specs.Saying.{conclusion_from}
use Rattle.vc_rule_table.specs.Cells.{agrees, columns_but}
use Rattle.vc_rule_table.specs.TableSaid.{new_conclusions}

-- what is found comes first of those that pass
found_first : {A : Type 0} (p : A → Bool) (xs : List A) (x : A) → find p xs ≡ Some x
    → (more : List A) × (filter p xs ≡ x ∷ more)
found_first p [] x e = absurd (cc)
found_first p (y ∷ xs) x e =
    elim (p y) as (λ b. cond b (Some y) (find p xs) ≡ Some x
    → (more : List _) × (cond b (y ∷ filter p xs) (filter p xs) ≡ x ∷ more)) [
      | true ↦ λ k. let same : y ≡ x = cc in (filter p xs, ap (λ z. z ∷ filter p xs) same)
      | false ↦ λ k. found_first p xs x k
    ] e

none_passes : {A : Type 0} (p : A → Bool) (xs : List A) → find p xs ≡ None → filter p xs ≡ []
none_passes p [] e = refl
none_passes p (y ∷ xs) e =
    elim (p y) as (λ b. cond b (Some y) (find p xs) ≡ None → cond b (y ∷ filter p xs) (filter p xs) ≡ []) [
      | true ↦ λ k. absurd (cc)
      | false ↦ λ k. none_passes p xs k
    ] e

agreed_from : (plan : Plan) (v : ℕ) (own : List Binding) (rows more : List (List Value)) (row : List Value)
    → rows ≡ row ∷ more
    → value_if (agrees plan v own rows) v (first_cell own row) ≡ agreed plan v own rows
agreed_from plan v own rows more row e =
    ap (λ rs. value_if (agrees plan v own rs) v (first_cell own row)) e ∙ sym (ap (agreed plan v own) e)

-- the cell of the first of the rows that pass, where all of these agree on it
pub agreed_first : (plan : Plan) (v : ℕ) (own : List Binding) (p : List Value → Bool) (rows : List (List Value))
    (row : List Value) → find p rows ≡ Some row
    → value_if (agrees plan v own (filter p rows)) v (first_cell own row) ≡ agreed plan v own (filter p rows)
agreed_first plan v own p rows row e = let first = found_first p rows row e in
    agreed_from plan v own (filter p rows) first.0 row first.1

pub agreed_none : (plan : Plan) (v : ℕ) (own : List Binding) (p : List Value → Bool) (rows : List (List Value))
    → find p rows ≡ None
    → [] ≡ agreed plan v own (filter p rows)
agreed_none plan v own p rows e = sym (ap (agreed plan v own) (none_passes p rows e))

-- conclusions from the same premises, without those whose atoms stand
pub new_from : (seen : Seen) (premises : List Atom) (given : List Atom)
    → map (conclusion_from premises) (filter (λ a. not (says seen a)) given)
    ≡ new_conclusions seen (map (conclusion_from premises) given)
new_from seen premises [] = refl
new_from seen premises (a ∷ given) =
    elim (says seen a) as
    (λ b. map (conclusion_from premises)
    (cond (not b) (a ∷ filter (λ x. not (says seen x)) given) (filter (λ x. not (says seen x)) given))
    ≡ cond (not b) (conclusion_from premises a ∷ new_conclusions seen (map (conclusion_from premises) given))
    (new_conclusions seen (map (conclusion_from premises) given))) [
      | true ↦ new_from seen premises given
      | false ↦ ap (λ cs. conclusion_from premises a ∷ cs) (new_from seen premises given)
    ]

-- no column is left out where no variable is named
pub all_columns : (columns : List Binding) → columns_but None columns ≡ columns
all_columns [] = refl
all_columns (column ∷ columns) = ap (λ cs. column ∷ cs) (all_columns columns)
