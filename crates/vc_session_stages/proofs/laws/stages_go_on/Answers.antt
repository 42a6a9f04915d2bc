use Rattle.vc_session_stages.proofs.StageLaws.{stages_begin, stages_go_on}
use Rattle.vc_session_stages.proofs.laws.stages_go_on.Goals as goal

pub returns-clause-begins : goal.returns-clause-begins
returns-clause-begins c = stages_begin

pub returns-clause-goes_on : goal.returns-clause-goes_on
returns-clause-goes_on c = stages_go_on
