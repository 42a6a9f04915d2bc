-- A plan or a stop is said, or that there was no memory for its line.
use Rattle.std.proofs.Common.{◌∙◌}
use Rattle.vc_app_check.specs.Checking.{outside}
use Rattle.vc_app_check.proofs.CheckLaws.{memory_said, plan_said, some_spot, stop_said}
use Rattle.vc_app_check.proofs.checking.check.Goals as goal

pub returns-in-Ok-plan_line : goal.returns-in-Ok-plan_line
returns-in-Ok-plan_line g c =
    let o
    = outside (g.F.Shelf.files c.args.shelf.now) (g.F.Shelf.faults c.args.shelf.now)
    (g.F.Shelf.faults c.load_plan.new.shelf)
    (g.S.Sink.written c.args.out.now) (g.S.Sink.written c.say.new.out) (g.S.Sink.faults c.args.out.now)
    (g.S.Sink.faults c.say.new.out) in
    record {
      ends = plan_said
          (some_spot c.args.alloc) c.args.name.now o c.in-Ok.plan c.bytes.result.now c.say.result c.in-Ok.ensures.plan
          (c.bytes.ensures ∙ c.in-Ok-plan_line.ensures) c.say.ensures;
    }

pub returns-in-Ok : goal.returns-in-Ok
returns-in-Ok g c =
    let said = c.say-in-Err-plan_line in
    let o
    = outside (g.F.Shelf.files c.args.shelf.now) (g.F.Shelf.faults c.args.shelf.now)
    (g.F.Shelf.faults c.load_plan.new.shelf)
    (g.S.Sink.written c.args.out.now) (g.S.Sink.written said.new.out) (g.S.Sink.faults c.args.out.now)
    (g.S.Sink.faults said.new.out) in
    record { ends = memory_said (some_spot c.args.alloc) c.args.name.now o said.result said.ensures }

pub returns-in-Ok-stop_line : goal.returns-in-Ok-stop_line
returns-in-Ok-stop_line g c =
    let said = c.say-in-Ok-stop_line in
    let o
    = outside (g.F.Shelf.files c.args.shelf.now) (g.F.Shelf.faults c.args.shelf.now)
    (g.F.Shelf.faults c.load_plan.new.shelf)
    (g.S.Sink.written c.args.out.now) (g.S.Sink.written said.new.out) (g.S.Sink.faults c.args.out.now)
    (g.S.Sink.faults said.new.out) in
    record {
      ends = stop_said
          (some_spot c.args.alloc) c.args.name.now o c.in-Err.stop
          c.bytes-in-Ok-stop_line.result.now c.stop_status.result
          said.result
          c.in-Err.ensures.stops (c.bytes-in-Ok-stop_line.ensures ∙ c.in-Ok-stop_line.ensures) c.stop_status.ensures
          said.ensures;
    }

pub returns : goal.returns
returns g c =
    let said = c.say-in-Err-stop_line in
    let o
    = outside (g.F.Shelf.files c.args.shelf.now) (g.F.Shelf.faults c.args.shelf.now)
    (g.F.Shelf.faults c.load_plan.new.shelf)
    (g.S.Sink.written c.args.out.now) (g.S.Sink.written said.new.out) (g.S.Sink.faults c.args.out.now)
    (g.S.Sink.faults said.new.out) in
    record { ends = memory_said (some_spot c.args.alloc) c.args.name.now o said.result said.ensures }
