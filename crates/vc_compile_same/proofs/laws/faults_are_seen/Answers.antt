use Rattle.vc_compile_same.proofs.PlanLaws.{same_faults}
use Rattle.vc_compile_same.proofs.laws.faults_are_seen.Goals as goal

pub returns : goal.returns
returns c = same_faults
