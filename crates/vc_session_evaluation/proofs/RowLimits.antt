-- Tables of a valid plan have few rows.
use Rattle.std.proofs.Common.{◌≡◌, ◌^◌, true, ◌&&◌, List, [], ◌∷◌, length, refl, ◌∙◌, ap, arith}
use Rattle.std.specs.Prelude.{nat_le, nat_lt}
use Rattle.std.specs.List.{list_all}
use Rattle.std.proofs.lemmas.Bool.{and_parts, leb-true, lt-ltb}
use Rattle.vc_plan.specs.declared.plans.Plan.{Plan}
use Rattle.vc_plan.specs.declared.plans.Table.{Table}
use Rattle.vc_plan.specs.Valid.{IsValid}

few_of : (tables : List Table) → list_all (λ table. nat_le (length table.rows) 10_000) tables ≡ true
    → list_all (λ table. nat_lt (length table.rows) (2 ^ 32)) tables ≡ true
few_of [] e = refl
few_of (table ∷ tables) e =
    let both = and_parts (nat_le (length table.rows) 10_000)
    (list_all (λ table. nat_le (length table.rows) 10_000) tables)
    e in
    let few = leb-true (length table.rows) 10_000 both.0 in
    ap (λ b. b && list_all (λ table. nat_lt (length table.rows) (2 ^ 32)) tables)
    (lt-ltb (length table.rows) (2 ^ 32) (omega (arith, few)))
    ∙ few_of tables both.1

pub rows_fit : (plan : Plan) → IsValid plan → list_all (λ table. nat_lt (length table.rows) (2 ^ 32)) plan.tables ≡ true
rows_fit plan valid = few_of plan.tables valid.row_limit
