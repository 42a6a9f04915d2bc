use Rattle.vc_desk.proofs.ConflictLaws.{conflicts_blame}
use Rattle.vc_desk.proofs.laws.conflicts_blame_whom_the_status_named.Goals as goal

pub returns : goal.returns
returns c = conflicts_blame
