use Rattle.vc_session_evaluation.proofs.CostLaws.{nets_cost_their_works}
use Rattle.vc_session_evaluation.proofs.laws.nets_cost_their_works.Goals as goal

pub returns : goal.returns
returns c = nets_cost_their_works
