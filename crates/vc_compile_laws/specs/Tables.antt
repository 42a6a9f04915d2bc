-- The tables of a plan.
use Rattle.std.specs.Prelude.{◌≡◌, true, ◌==◌, nat_le, length}
use Rattle.std.specs.List.{list_all}
use Rattle.vc_plan.specs.Lists.{are_listed}
use Rattle.vc_plan.specs.LookUps.{keys_apart}
use Rattle.vc_plan.specs.Orders.{are_apart}
use Rattle.vc_plan.specs.RuleRanges.{table_there}
use Rattle.vc_plan.specs.declared.plans.Plan.{Plan}

pub record HasTables (plan : Plan) : Type 0 where
  pub tables_there : list_all (table_there plan) plan.tables ≡ true
  pub table_columns : list_all (λ table. are_apart (λ a b. a.characteristic == b.characteristic) table.columns)
      plan.tables ≡ true
  pub cells : list_all (λ table. list_all (are_listed plan table.columns) table.rows) plan.tables ≡ true
  pub keys : list_all keys_apart plan.tables ≡ true
  pub row_limit : list_all (λ table. nat_le (length table.rows) 10_000) plan.tables ≡ true
