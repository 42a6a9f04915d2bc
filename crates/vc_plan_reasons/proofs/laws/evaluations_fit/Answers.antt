use Rattle.vc_plan_reasons.proofs.ReasonLaws.Fitting.{evaluations_fit}
use Rattle.vc_plan_reasons.proofs.laws.evaluations_fit.Goals as goal

pub returns : goal.returns
returns c = evaluations_fit
