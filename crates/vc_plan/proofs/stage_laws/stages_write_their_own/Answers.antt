use Rattle.vc_plan.proofs.StageProofs.Own.{stages_write_their_own, sums_write_their_own}
use Rattle.vc_plan.proofs.stage_laws.stages_write_their_own.Goals as goal

pub returns-clause-depths : goal.returns-clause-depths
returns-clause-depths c = stages_write_their_own

pub returns-clause-sums : goal.returns-clause-sums
returns-clause-sums c = sums_write_their_own
