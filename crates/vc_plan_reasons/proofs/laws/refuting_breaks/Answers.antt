use Rattle.vc_plan_reasons.proofs.ReasonLaws.Refuting.{refuting_blames, refuting_breaks}
use Rattle.vc_plan_reasons.proofs.laws.refuting_breaks.Goals as goal

pub returns-clause-breaks : goal.returns-clause-breaks
returns-clause-breaks c = refuting_breaks

pub returns-clause-blames : goal.returns-clause-blames
returns-clause-blames c = refuting_blames
