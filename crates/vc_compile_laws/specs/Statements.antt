-- How many statements a plan's procedures have.
use Rattle.std.specs.Prelude.{◌≡◌, ◌^◌, true, nat_lt, length}
use Rattle.std.specs.List.{list_all}
use Rattle.vc_plan.specs.declared.plans.Plan.{Plan}

pub record HasFewStatements (plan : Plan) : Type 0 where
  pub statement_limit : list_all (λ procedure. nat_lt (length procedure.statements) (2 ^ 32)) plan.procedures ≡ true
