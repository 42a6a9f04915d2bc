-- Where there is no memory for the line, want of memory is said.
use Rattle.std.proofs.Common.{refl}
use Rattle.vc_app_models.specs.declared.stop.ModelStop.TheVariants.{OutOfMemory}
use Rattle.vc_app_run.specs.Endings.{exhausted}
use Rattle.vc_app_run.specs.declared.ending.Stop.TheVariants as stops
use Rattle.vc_app_run.proofs.EndingLaws.{said_ends}
use Rattle.vc_app_run.proofs.ending.say_model.Goals as goal

pub returns-in-Err-clause-ends : goal.returns-in-Err-clause-ends
returns-in-Err-clause-ends g c =
    let written = g.S.Sink.written in
    rw c.said-in-Err.ensures
    (said_ends c.args.words.now (stops.Model c.args.stop) (stops.Model OutOfMemory) (written c.args.out.now)
    (written c.write_text.new.out) c.write_text.result
    (exhausted c.args.stop refl refl) c.write_text.ensures.ok c.write_text.ensures.err)
