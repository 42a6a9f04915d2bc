-- One line more is answered, whole or cut short, or none is left.
use Rattle.std.proofs.Common.{rules}
use Rattle.std.proofs.lemmas.Result.{err_from_is_err_and}
use Rattle.vc_app_script.proofs.TranscriptLaws.{all_done, cut_short, so_far_push, some_done, state_beside}
use Rattle.vc_app_script.proofs.transcript.answer_script.Goals as goal

pub returns-in_err-answer_line-clause-memory : goal.returns-in_err-answer_line-clause-memory
returns-in_err-answer_line-clause-memory g c =
    let at = state_beside g.K.Keeper.texts g.K.Keeper.faults in
    let written = g.S.Sink.written in
    let p = err_from_is_err_and c.from_residual.result c.from_residual.ensures.1 in
    rw (p.1, p.2) (λ h. some_done c.args.desk.now.plan c.loop-line.desk.plan c.args.script.now c.loop-line.rest.now
    (at c.args.desk.now c.args.keeper.now) (at c.loop-line.desk c.loop-line.keeper) (written c.args.out.now)
    (written c.loop-line.out) c.in-Some.line.now c.in-Some.later.now
    (at c.answer_line.new.desk c.answer_line.new.keeper) (written c.answer_line.new.out) c.loop-line.invariant.so_far
    c.in-Some.ensures.line c.loop-line.invariant.plan
    (c.in_err-answer_line.ensures.memory h))

pub returns-in_err-answer_line-clause-cut : goal.returns-in_err-answer_line-clause-cut
returns-in_err-answer_line-clause-cut g c =
    let at = state_beside g.K.Keeper.texts g.K.Keeper.faults in
    let written = g.S.Sink.written in
    let p = err_from_is_err_and c.from_residual.result c.from_residual.ensures.1 in
    rw (p.1, p.2) (λ h. cut_short c.args.desk.now.plan c.loop-line.desk.plan c.args.script.now c.loop-line.rest.now
    (at c.args.desk.now c.args.keeper.now) (at c.loop-line.desk c.loop-line.keeper) (written c.args.out.now)
    (written c.loop-line.out) c.in-Some.line.now c.in-Some.later.now
    (at c.answer_line.new.desk c.answer_line.new.keeper) (written c.answer_line.new.out) c.loop-line.invariant.so_far
    c.in-Some.ensures.line c.loop-line.invariant.plan
    (c.in_err-answer_line.ensures.cut h))

pub loop-line-preserved : goal.loop-line-preserved
loop-line-preserved g c =
    let at = state_beside g.K.Keeper.texts g.K.Keeper.faults in
    let written = g.S.Sink.written in
    record {
      so_far = so_far_push c.args.desk.now.plan c.loop-line.desk.plan c.args.script.now c.loop-line.rest.now
          (at c.args.desk.now c.args.keeper.now) (at c.loop-line.desk c.loop-line.keeper) (written c.args.out.now)
          (written c.loop-line.out) c.in-Some.line.now c.in-Some.later.now
          (at c.answer_line.new.desk c.answer_line.new.keeper) (written c.answer_line.new.out)
          c.loop-line.invariant.so_far c.in-Some.ensures.line c.loop-line.invariant.plan
          c.in_ok-answer_line.ensures.done;
      later = search rules;
      is = search rules;
      plan = search rules;
      begun = search rules;
    }

pub returns-clause-done : goal.returns-clause-done
returns-clause-done g c =
    let at = state_beside g.K.Keeper.texts g.K.Keeper.faults in
    all_done c.args.desk.now.plan c.args.script.now c.loop-line.rest.now
    (at c.args.desk.now c.args.keeper.now) (at c.loop-line.desk c.loop-line.keeper)
    (g.S.Sink.written c.args.out.now) (g.S.Sink.written c.loop-line.out) c.loop-line.invariant.so_far
    c.in_default.ensures.end
