-- The stop is told as itself.
use Rattle.std.proofs.Common.{refl, subst, sym}
use Rattle.vc_app_check.specs.Checking.{IsSaid}
use Rattle.vc_app_serve.specs.Telling.{itself, stop_line, stop_status}
use Rattle.vc_app_serve.proofs.telling.say_stop.Goals as goal

pub returns-in-Keeper : goal.returns-in-Keeper
returns-in-Keeper g c =
    let written = g.S.Sink.written in
    let faults = g.S.Sink.faults in
    let old = c.args.out.now in
    let new = c.say_keeper.new.out in
    record {
      told = c.args.stop.now;
      as_told = itself refl;
      said = subst (λ stop. IsSaid (written old) (written new) (faults old) (faults new)
          (stop_line c.args.model.now stop) (stop_status stop) c.say_keeper.result) (sym c.in-Keeper.is)
          c.say_keeper.ensures;
    }
