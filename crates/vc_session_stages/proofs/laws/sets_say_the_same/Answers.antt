use Rattle.vc_session_stages.proofs.StageLaws.{sets_say_the_same}
use Rattle.vc_session_stages.proofs.laws.sets_say_the_same.Goals as goal

pub returns : goal.returns
returns c = sets_say_the_same
