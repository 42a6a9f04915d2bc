use Rattle.vc_session_stages.proofs.StageLaws.{stages_break, stages_settle}
use Rattle.vc_session_stages.proofs.laws.stages_end.Goals as goal

pub returns-clause-breaks : goal.returns-clause-breaks
returns-clause-breaks c = stages_break

pub returns-clause-settles : goal.returns-clause-settles
returns-clause-settles c = stages_settle
