-- The flags are those before the last stage.
use Rattle.std.proofs.Common.{ap}
use Rattle.vc_session_evaluation.specs.Going.{with_late}
use Rattle.vc_session_evaluation.proofs.GoingLaws.{flagged_before}
use Rattle.vc_session_evaluation.proofs.stages.Stages.flag_before.Goals as goal

pub returns-then-stage-last : goal.returns-then-stage-last
returns-then-stage-last c =
    ap (with_late c.args.self.now)
    (flagged_before c.args.plan.now c.args.self.now c.args.stage c.args.last c.as_slice.result.now
    c.flag_missing.new.late
    c.if-stage-last.true c.requires.last c.as_slice.ensures.value c.flag_missing.ensures)
