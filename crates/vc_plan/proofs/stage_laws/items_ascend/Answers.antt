use Rattle.vc_plan.proofs.StageProofs.Items.{items_ascend}
use Rattle.vc_plan.proofs.stage_laws.items_ascend.Goals as goal

pub returns : goal.returns
returns c = items_ascend
