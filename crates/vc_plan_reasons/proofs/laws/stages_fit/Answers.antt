use Rattle.vc_plan_reasons.proofs.ReasonLaws.Fitting.{stages_fit}
use Rattle.vc_plan_reasons.proofs.laws.stages_fit.Goals as goal

pub returns : goal.returns
returns c = stages_fit
