use Rattle.vc_proc.proofs.StageLaws.{valid_can_run}
use Rattle.vc_proc.proofs.stages.run_stage.Goals as goal

pub run-requires-clause-can : goal.run-requires-clause-can
run-requires-clause-can g c = valid_can_run c.args.plan.now c.requires.valid
