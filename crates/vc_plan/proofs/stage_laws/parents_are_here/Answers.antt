use Rattle.vc_plan.proofs.StageProofs.Upward.{parents_are_here}
use Rattle.vc_plan.proofs.stage_laws.parents_are_here.Goals as goal

pub returns : goal.returns
returns c = parents_are_here
