use Rattle.vc_session_evaluation.proofs.StartLaws.{nets_start_behind}
use Rattle.vc_session_evaluation.proofs.laws.nets_start_behind.Goals as goal

pub returns : goal.returns
returns c = nets_start_behind
