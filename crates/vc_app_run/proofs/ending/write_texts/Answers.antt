-- The texts before the one that failed, and a front of that.
use Rattle.std.proofs.Common.{◌++◌}
use Rattle.std.proofs.lemmas.Result.{on_err_weaker}
use Rattle.vc_outside.specs.Sinks.{AppendsFront}
use Rattle.vc_app_run.proofs.SinkLaws.{front_of_first, front_of_second, on_err}
use Rattle.vc_app_run.proofs.ending.write_texts.Goals as goal

pub returns-in_err-write_text-clause-err : goal.returns-in_err-write_text-clause-err
returns-in_err-write_text-clause-err g c =
    let written = g.S.Sink.written in
    on_err c.from_residual.result
    (front_of_first (written c.args.out.now) (written c.write_text.new.out) c.args.before.now
    (c.args.name.now ++ c.args.after.now) c.in_err-write_text.ensures.err)

pub returns-in_err-write_text-2-clause-err : goal.returns-in_err-write_text-2-clause-err
returns-in_err-write_text-2-clause-err g c =
    let written = g.S.Sink.written in
    on_err c.from_residual-in_err-write_text-2.result
    (front_of_second (written c.args.out.now) (written c.write_text.new.out) (written c.write_text-2.new.out)
    c.args.before.now (c.args.name.now ++ c.args.after.now)
    c.in_ok-write_text.ensures.ok
    (front_of_first (written c.write_text.new.out) (written c.write_text-2.new.out) c.args.name.now c.args.after.now
    c.in_err-write_text-2.ensures.err))

pub returns-clause-err : goal.returns-clause-err
returns-clause-err g c =
    let written = g.S.Sink.written in
    on_err_weaker c.write_text-3.result
    (λ (f : AppendsFront (written c.write_text-2.new.out) (written c.write_text-3.new.out) c.args.after.now).
    front_of_second (written c.args.out.now) (written c.write_text.new.out) (written c.write_text-3.new.out)
    c.args.before.now (c.args.name.now ++ c.args.after.now)
    c.in_ok-write_text.ensures.ok
    (front_of_second (written c.write_text.new.out) (written c.write_text-2.new.out) (written c.write_text-3.new.out)
    c.args.name.now c.args.after.now
    c.in_ok-write_text-2.ensures.ok f))
    c.write_text-3.ensures.err
