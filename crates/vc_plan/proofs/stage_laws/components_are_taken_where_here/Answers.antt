use Rattle.vc_plan.proofs.StageProofs.Items.{components_are_taken_where_here}
use Rattle.vc_plan.proofs.stage_laws.components_are_taken_where_here.Goals as goal

pub returns : goal.returns
returns c = components_are_taken_where_here
