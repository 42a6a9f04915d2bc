use Rattle.vc_session_stages.proofs.StageLaws.{last_set_settles}
use Rattle.vc_session_stages.proofs.laws.last_sets_settle.Goals as goal

pub returns : goal.returns
returns c = last_set_settles
