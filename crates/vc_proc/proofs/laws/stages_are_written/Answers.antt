use Rattle.vc_proc.proofs.StageLaws.{depths_are_written, sums_are_written}
use Rattle.vc_proc.proofs.laws.stages_are_written.Goals as goal

pub returns-clause-depths : goal.returns-clause-depths
returns-clause-depths c = depths_are_written

pub returns-clause-sums : goal.returns-clause-sums
returns-clause-sums c = sums_are_written
