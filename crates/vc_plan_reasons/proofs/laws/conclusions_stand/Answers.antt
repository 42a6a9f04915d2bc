use Rattle.vc_plan_reasons.proofs.ReasonLaws.Closed.{chains_stand, conclusions_stand}
use Rattle.vc_plan_reasons.proofs.laws.conclusions_stand.Goals as goal

pub returns-clause-closed : goal.returns-clause-closed
returns-clause-closed c = conclusions_stand

pub returns-clause-chains : goal.returns-clause-chains
returns-clause-chains c = chains_stand
