-- The sink failed in an answer.
use Rattle.std.proofs.Common.{subst, ap, Err}
use Rattle.vc_desk.specs.Keeping.{keeping}
use Rattle.vc_app_script.specs.Transcript.{BreaksOff}
use Rattle.vc_app_run.proofs.running.run_job.Goals as goal

pub returns-in-Err-Sink-clause-ends : goal.returns-in-Err-Sink-clause-ends
returns-in-Err-Sink-clause-ends g c =
    let written = g.S.Sink.written in
    let new = c.answer_from_start.new in
    let saved = g.K.Keeper.texts c.args.keeper.now in
    let k = keeping saved saved (g.K.Keeper.texts new.keeper)
    (g.K.Keeper.faults c.args.keeper.now) (g.K.Keeper.faults new.keeper) (g.K.Keeper.begun new.keeper) in
    subst (λ script. BreaksOff c.args.job.plan script k (written c.args.out.now) (written new.out))
    c.bytes.ensures (c.in-Err-Sink.ensures.cut (ap Err c.in-Err-Sink.field-0-is))
