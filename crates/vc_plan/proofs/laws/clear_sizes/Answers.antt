use Rattle.vc_plan.proofs.PlanLaws.Bound.{clear_sets_are_small}
use Rattle.vc_plan.proofs.laws.clear_sizes.Goals as goal

pub returns : goal.returns
returns c = clear_sets_are_small
