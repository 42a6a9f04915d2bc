use Rattle.vc_outside.proofs.Pieces.{Written-more}
use Rattle.std.proofs.Common.{◌∙◌}
use Rattle.vc_outside.proofs.sink.write_all.Goals as goal

pub loop-rest-preserved : goal.loop-rest-preserved
loop-rest-preserved g c = record {
  moved = Written-more (g.S.Sink.written c.args.sink.now) (g.S.Sink.written c.loop-rest.sink)
      (g.S.Sink.written c.write.new.self) c.args.bytes.now c.loop-rest.rest.now c.in_ok-taken.taken
      c.loop-rest.invariant.moved c.in_ok-taken.ensures.bytes;
  calm = c.in_ok-taken.ensures.cause.calm ∙ c.loop-rest.invariant.calm;
}
