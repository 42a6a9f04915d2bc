-- The stop is told as itself, or as want of memory.
use Rattle.std.proofs.Common.{refl, subst, ◌∙◌}
use Rattle.vc_app_check.specs.Checking.{IsSaid}
use Rattle.vc_app_models.specs.declared.stop.ModelStop.TheVariants.{OutOfMemory}
use Rattle.vc_app_serve.specs.Telling.{exhausted, itself, stop_status}
use Rattle.vc_app_serve.specs.declared.stop.Stop.TheVariants as stops
use Rattle.vc_app_serve.proofs.telling.say_model.Goals as goal

pub returns-in-Ok : goal.returns-in-Ok
returns-in-Ok g c =
    let written = g.S.Sink.written in
    let faults = g.S.Sink.faults in
    let stop = stops.Model c.args.stop.now in
    let old = c.args.out.now in
    let new = c.say.new.out in
    record {
      told = stop;
      as_told = itself refl;
      said = subst (λ line. IsSaid (written old) (written new) (faults old) (faults new) line (stop_status stop)
          c.say.result) (c.bytes.ensures ∙ c.in-Ok.ensures)
          (subst (λ own. IsSaid (written old) (written new) (faults old) (faults new) c.bytes.result.now own
          c.say.result) c.stop_status.ensures c.say.ensures);
    }

pub returns-in-Err : goal.returns-in-Err
returns-in-Err g c = record {
  told = stops.Model OutOfMemory;
  as_told = exhausted c.args.stop.now refl refl;
  said = c.say-in-Err.ensures;
}
