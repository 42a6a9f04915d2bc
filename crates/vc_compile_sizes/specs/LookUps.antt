-- The look-ups of a plan's procedures.
use Rattle.std.specs.Prelude.{◌≡◌, ◌==◌, true}
use Rattle.std.specs.List.{list_all}
use Rattle.vc_plan.specs.LookUps.{action_proper}
use Rattle.vc_plan.specs.Orders.{are_apart}
use Rattle.vc_plan.specs.Valid.{each_statement}
use Rattle.vc_plan.specs.declared.plans.Plan.{Plan}

-- the columns of a table are of different characteristics
pub record HasColumnsApart (plan : Plan) : Type 0 where
  pub table_columns : list_all (λ table. are_apart (λ a b. a.characteristic == b.characteristic) table.columns)
      plan.tables ≡ true

-- each gives a term to each key, and fills other columns
pub record HasLookUps (plan : Plan) : Type 0 where
  pub look_ups : each_statement plan (λ statement. action_proper plan statement.action) ≡ true
