use Rattle.vc_plan.proofs.StageProofs.Parents.{parents_come_first}
use Rattle.vc_plan.proofs.stage_laws.parents_come_first.Goals as goal

pub returns : goal.returns
returns c = parents_come_first
