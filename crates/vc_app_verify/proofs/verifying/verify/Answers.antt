-- What is told of a claim, or of what stops it, is said, or that there was no memory for it.
use Rattle.vc_app_check.specs.Checking.{outside}
use Rattle.vc_app_check.proofs.CheckLaws.{some_spot}
use Rattle.vc_app_verify.proofs.VerifyLaws.{claim_said, stop_said}
use Rattle.vc_app_verify.proofs.verifying.verify.Goals as goal

pub returns-in-Ok : goal.returns-in-Ok
returns-in-Ok g c =
    let o
    = outside (g.F.Shelf.files c.args.shelf.now) (g.F.Shelf.faults c.args.shelf.now)
    (g.F.Shelf.faults c.load_claim.new.shelf)
    (g.S.Sink.written c.args.out.now) (g.S.Sink.written c.say_told.new.out) (g.S.Sink.faults c.args.out.now)
    (g.S.Sink.faults c.say_told.new.out) in
    record {
      ends = claim_said (some_spot c.args.alloc) c.args.model.now c.args.chain.now o c.say_told.result c.in-Ok.claim
          c.claim_told-told.result c.in-Ok.ensures.claim c.claim_told-told.ensures c.say_told.ensures;
    }

pub returns-in-Err : goal.returns-in-Err
returns-in-Err g c =
    let said = c.say_told-in-Err in
    let o
    = outside (g.F.Shelf.files c.args.shelf.now) (g.F.Shelf.faults c.args.shelf.now)
    (g.F.Shelf.faults c.load_claim.new.shelf)
    (g.S.Sink.written c.args.out.now) (g.S.Sink.written said.new.out) (g.S.Sink.faults c.args.out.now)
    (g.S.Sink.faults said.new.out) in
    record {
      ends = stop_said (some_spot c.args.alloc) c.args.model.now c.args.chain.now o said.result c.in-Err.stop
          c.stop_told-told.result c.in-Err.ensures.stops c.stop_told-told.ensures said.ensures;
    }
