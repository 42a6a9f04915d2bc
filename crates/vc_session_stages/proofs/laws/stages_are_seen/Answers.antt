use Rattle.vc_session_stages.proofs.StageLaws.{late_is_seen, was_is}
use Rattle.vc_session_stages.proofs.laws.stages_are_seen.Goals as goal

pub returns-clause-was_here : goal.returns-clause-was_here
returns-clause-was_here c = was_is

pub returns-clause-late : goal.returns-clause-late
returns-clause-late c = late_is_seen
