use Rattle.vc_desk_shown.proofs.ShownLaws.{settled_sessions_reach}
use Rattle.vc_desk_shown.proofs.laws.settled_sessions_reach.Goals as goal

pub returns : goal.returns
returns c = settled_sessions_reach
