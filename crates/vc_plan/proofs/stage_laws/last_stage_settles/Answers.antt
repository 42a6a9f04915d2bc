use Rattle.vc_plan.proofs.StageProofs.LastStage.{last_stage_settles}
use Rattle.vc_plan.proofs.stage_laws.last_stage_settles.Goals as goal

pub returns : goal.returns
returns c = last_stage_settles
