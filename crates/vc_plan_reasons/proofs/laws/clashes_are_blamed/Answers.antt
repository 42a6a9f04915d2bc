use Rattle.vc_plan_reasons.proofs.ReasonLaws.Blaming.{clashes_are_blamed}
use Rattle.vc_plan_reasons.proofs.laws.clashes_are_blamed.Goals as goal

pub returns : goal.returns
returns c = clashes_are_blamed
