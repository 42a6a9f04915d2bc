-- What a valid plan lets the reader do.
use Rattle.vc_plan.specs.declared.plans.Plan.{Plan}
use Rattle.vc_plan.specs.Valid.{IsValid}
use Rattle.vc_wire_chains_meanings.specs.Meant.{HasNumbers}

-- numbers of 32 bits name what a valid plan has
abbrev pub ValidPlansHaveNumbers : Type 0
ValidPlansHaveNumbers = (plan : Plan) → IsValid plan → HasNumbers plan
