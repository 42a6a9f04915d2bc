use Rattle.vc_compile_same.proofs.PlanLaws.{same_plans}
use Rattle.vc_compile_same.proofs.laws.plans_are_seen.Goals as goal

pub returns : goal.returns
returns c = same_plans
