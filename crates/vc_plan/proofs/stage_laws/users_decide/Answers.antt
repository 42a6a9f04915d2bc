use Rattle.vc_plan.proofs.StageProofs.Decided.{users_decide}
use Rattle.vc_plan.proofs.stage_laws.users_decide.Goals as goal

pub returns : goal.returns
returns c = users_decide
