use Rattle.vc_compile_plan.proofs.PlanLaws.{defined_plans_are_ones}
use Rattle.vc_compile_plan.proofs.laws.defined_plans_are_ones.Goals as goal

pub returns : goal.returns
returns c = defined_plans_are_ones
