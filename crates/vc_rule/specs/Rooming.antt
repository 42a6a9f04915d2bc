-- The rooms that are computed from a plan suffice for what is found by its rules.
use Rattle.std.specs.Prelude.{ℕ}
use Rattle.vc_plan.specs.declared.plans.Plan.{Plan}
use Rattle.vc_plan.specs.Seen.{Seen}
use Rattle.vc_plan.specs.Valid.{IsValid}
use Rattle.vc_plan_values.specs.Computing.{LiesInGrains}
use Rattle.vc_rule_premises.specs.Saying.{HasRoomFor}
use Rattle.vc_rule.specs.Evaluating.{found_at}
use Rattle.vc_rule.specs.Rooms.{rooms_of}

abbrev pub RoomsSuffice : Type 0
RoomsSuffice = (plan : Plan) (seen : Seen) (r : ℕ) → IsValid plan → LiesInGrains plan seen
    → HasRoomFor (rooms_of plan) (found_at plan seen r)
