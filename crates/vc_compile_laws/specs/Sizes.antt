-- The sizes that a plan may have.
use Rattle.std.specs.Prelude.{◌≡◌, true, nat_le, length}
use Rattle.std.specs.List.{list_all}
use Rattle.vc_plan.specs.Bounds.{cell_bound}
use Rattle.vc_plan.specs.Domains.{atom_count}
use Rattle.vc_plan.specs.declared.plans.Plan.{Plan}

pub record IsWithin (plan : Plan) : Type 0 where
  pub slot_limit : nat_le (length plan.slots) 40 ≡ true
  pub rule_limit : nat_le (length plan.rules) 20_000 ≡ true
  pub atom_limit : nat_le (atom_count plan) 40_000 ≡ true
  pub cell_limit : nat_le (cell_bound plan) 500_000 ≡ true

pub record HasCounts (plan : Plan) : Type 0 where
  pub characteristic_limit : nat_le (length plan.characteristics) 2_000 ≡ true
  pub class_limit : list_all (λ object. nat_le (length object.characteristics) 500) plan.objects ≡ true
  pub object_limit : nat_le (length plan.objects) 500 ≡ true
  pub dependency_limit : nat_le (length plan.dependencies) 2_000 ≡ true
  pub table_limit : nat_le (length plan.tables) 200 ≡ true
  pub column_limit : list_all (λ table. nat_le (length table.columns) 20) plan.tables ≡ true
