-- The script ended in the state that its answers left, and began with no session open.
use Rattle.std.proofs.lemmas.Result.{on_ok_weaker}
use Rattle.vc_desk.specs.Desks.{open_of, state_of}
use Rattle.vc_desk.proofs.OpenLaws.{begins}
use Rattle.vc_app_script.specs.Transcript.{IsAnswered, IsAnsweredSoFar, IsCutShort}
use Rattle.vc_app_run.proofs.running.answer_from_start.Goals as goal

pub returns-clause-done : goal.returns-clause-done
returns-clause-done g c =
    let written = g.S.Sink.written in
    let texts = g.K.Keeper.texts in
    let faults = g.K.Keeper.faults in
    let desk = c.new-desk.result in
    let new = c.answer_script-answered.new in
    let last = state_of new.desk.sessions (texts new.keeper) (faults new.keeper) in
    on_ok_weaker c.answer_script-answered.result
    (λ (h : IsAnswered desk.plan c.args.script.now
    (state_of desk.sessions (texts c.args.keeper.now) (faults c.args.keeper.now)) last (written c.args.out.now)
    (written new.out)).
    record {
      last = open_of new.desk.sessions;
      answered = begins desk c.args.plan (texts c.args.keeper.now) (faults c.args.keeper.now)
          (λ plan state. IsAnswered plan c.args.script.now state last (written c.args.out.now) (written new.out))
          c.new-desk.ensures.plan c.new-desk.ensures.none h;
    })
    c.answer_script-answered.ensures.done

pub returns-clause-memory : goal.returns-clause-memory
returns-clause-memory g c = λ h.
    let written = g.S.Sink.written in
    let texts = g.K.Keeper.texts in
    let faults = g.K.Keeper.faults in
    let new = c.answer_script-answered.new in
    let last = state_of new.desk.sessions (texts new.keeper) (faults new.keeper) in
    record {
      last = open_of new.desk.sessions;
      answered = begins c.new-desk.result c.args.plan (texts c.args.keeper.now) (faults c.args.keeper.now)
          (λ plan state. IsAnsweredSoFar plan c.args.script.now state last (written c.args.out.now) (written new.out))
          c.new-desk.ensures.plan c.new-desk.ensures.none (c.answer_script-answered.ensures.memory h);
    }

pub returns-clause-cut : goal.returns-clause-cut
returns-clause-cut g c = λ h.
    let written = g.S.Sink.written in
    let texts = g.K.Keeper.texts in
    let faults = g.K.Keeper.faults in
    let new = c.answer_script-answered.new in
    let last = state_of new.desk.sessions (texts new.keeper) (faults new.keeper) in
    record {
      last = open_of new.desk.sessions;
      answered = begins c.new-desk.result c.args.plan (texts c.args.keeper.now) (faults c.args.keeper.now)
          (λ plan state. IsCutShort plan c.args.script.now state last (written c.args.out.now) (written new.out))
          c.new-desk.ensures.plan c.new-desk.ensures.none (c.answer_script-answered.ensures.cut h);
    }
