use Rattle.vc_plan.proofs.PlanLaws.Givers.{parts_are_clear}
use Rattle.vc_plan.proofs.laws.clear_parts.Goals as goal

pub returns : goal.returns
returns c = parts_are_clear
