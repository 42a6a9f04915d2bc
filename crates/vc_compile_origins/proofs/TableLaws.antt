-- The tables of a plan are those of its model, with their rows.
use Rattle.std.proofs.Common.{◌≡◌, ℕ, zero, suc, ◌+◌, List, [], ◌∷◌, Some, ap, ◌∙◌, arith}
use Rattle.std.specs.Prelude.{slice_get}
use Rattle.vc_model_parts.specs.declared.parts.Table as declared
use Rattle.vc_table.specs.declared.table.VariantTable.{VariantTable}
use Rattle.vc_compile_plan.specs.Tables.{table_from, tables_from}

pub planned_table : (tables : List VariantTable) (t : ℕ) (xs : List declared.Table) (k : ℕ) (x : declared.Table)
    → slice_get xs k ≡ Some x
    → slice_get (tables_from tables t xs) k ≡ Some (table_from x (slice_get tables (t + k)))
planned_table tables t [] k x e = absurd (cc)
planned_table tables t (y ∷ xs) zero x e =
    let same : y ≡ x = cc in
    ap (λ z. Some (table_from z (slice_get tables t))) same ∙ ap (λ n. Some (table_from x (slice_get tables n)))
    (no_more t)
  where
    no_more : (n : ℕ) → n ≡ n + 0
    no_more n = omega arith
planned_table tables t (y ∷ xs) (suc k) x e =
    planned_table tables (suc t) xs k x e ∙ ap (λ n. Some (table_from x (slice_get tables n))) (one_more t k)
  where
    one_more : (n k : ℕ) → suc n + k ≡ n + suc k
    one_more n k = omega arith
