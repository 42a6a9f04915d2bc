use Rattle.vc_outside.proofs.Pieces.{Written-more}
use Rattle.std.proofs.Common.{◌∙◌}
use Rattle.vc_outside_links.proofs.link.send_all.Goals as goal

pub loop-rest-preserved : goal.loop-rest-preserved
loop-rest-preserved g c = record {
  moved = Written-more (g.L.Link.written c.args.link.now) (g.L.Link.written c.loop-rest.link)
      (g.L.Link.written c.write.new.self) c.args.bytes.now c.loop-rest.rest.now c.in_ok-taken.taken
      c.loop-rest.invariant.moved c.in_ok-taken.ensures.bytes;
  left = c.write.ensures.left ∙ c.loop-rest.invariant.left;
  calm = c.in_ok-taken.ensures.cause.calm ∙ c.loop-rest.invariant.calm;
}
