-- What the calls take for granted of a plan.
use Rattle.std.specs.Prelude.{◌<◌, ◌^◌}
use Rattle.vc_plan.specs.declared.plans.Plan.{Plan}
use Rattle.vc_plan.specs.Domains.{atom_count}
use Rattle.vc_plan.specs.Valid.{IsValid}
use Rattle.vc_show.specs.Fitting.{ShownFits}

pub record RowsFit (plan : Plan) : Type 0 where
  pub shown : ShownFits plan
  pub atoms : atom_count plan < 2 ^ 32

-- a valid plan's do
abbrev pub ValidPlansHaveRows : Type 0
ValidPlansHaveRows = (plan : Plan) → IsValid plan → RowsFit plan
