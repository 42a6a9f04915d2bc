use Rattle.vc_plan.proofs.PlanLaws.Rounds.{rounds_suffice}
use Rattle.vc_plan.proofs.laws.rounds_suffice.Goals as goal

pub returns : goal.returns
returns c = rounds_suffice
