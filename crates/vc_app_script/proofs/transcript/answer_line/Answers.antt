-- A front of the answer to the line's request was written, or nothing of it.
use Rattle.std.proofs.Common.{◌≡◌, false, sym, subst, ◌∙◌, rules}
use Rattle.vc_desk.specs.Desks.{state_of}
use Rattle.vc_app_script.specs.Script.{is_skipped}
use Rattle.vc_app_script.specs.Transcript.{AnswersLine}
use Rattle.vc_app_script.proofs.TranscriptLaws.{line_answer, line_unsaid}
use Rattle.vc_app_script.proofs.transcript.answer_line.Goals as goal

pub returns-in_err-write_all-clause-cut : goal.returns-in_err-write_all-clause-cut
returns-in_err-write_all-clause-cut g c = λ _.
    let texts = g.K.Keeper.texts in
    let faults = g.K.Keeper.faults in
    let front = c.in_err-write_all.ensures.err in
    let here = state_of c.args.desk.now.sessions (texts c.args.keeper.now) (faults c.args.keeper.now) in
    let next = state_of c.answer_asked.new.desk.sessions (texts c.answer_asked.new.keeper)
    (faults c.answer_asked.new.keeper) in
    let skipped : is_skipped c.args.line.now ≡ false = sym c.is_skipped.ensures ∙ c.if-is_skipped.false in
    record {
      front = front.0;
      rest = front.1;
      answer = subst (λ b. AnswersLine c.args.desk.now.plan here c.args.line.now b next)
          (sym c.bytes.ensures ∙ front.2)
          (line_answer c.args.desk.now.plan here c.args.line.now c.in_ok-request.request
          c.in_ok-text.text next skipped c.in_ok-request.ensures c.in_ok-text.ensures.answers);
      written = front.3;
    }

pub returns-in_err-text-clause-memory : goal.returns-in_err-text-clause-memory
returns-in_err-text-clause-memory g c = λ _.
    let texts = g.K.Keeper.texts in
    let faults = g.K.Keeper.faults in
    let skipped : is_skipped c.args.line.now ≡ false = sym c.is_skipped.ensures ∙ c.if-is_skipped.false in
    record {
      stands = line_unsaid c.args.desk.now.plan
          (state_of c.args.desk.now.sessions (texts c.args.keeper.now) (faults c.args.keeper.now)) c.args.line.now
          c.in_ok-request.request
          (state_of c.answer_asked.new.desk.sessions (texts c.answer_asked.new.keeper)
          (faults c.answer_asked.new.keeper))
          skipped c.in_ok-request.ensures c.in_err-text.ensures.leaves;
      written = search rules;
    }
