use Rattle.vc_plan_reasons.proofs.ReasonLaws.Few.{few_of_a_thing}
use Rattle.vc_plan_reasons.proofs.laws.things_are_small.Goals as goal

pub returns : goal.returns
returns c = few_of_a_thing
