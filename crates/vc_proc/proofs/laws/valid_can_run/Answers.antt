use Rattle.vc_proc.proofs.StageLaws.{valid_can_run}
use Rattle.vc_proc.proofs.laws.valid_can_run.Goals as goal

pub returns : goal.returns
returns c = valid_can_run
