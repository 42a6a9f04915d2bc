use Rattle.std.proofs.Common.{length, ◌≡◌}
use Rattle.vc_outside.proofs.Pieces.{Written}
use Rattle.vc_outside_links.proofs.link.send_all.Given as goal

abbrev pub invariant-loop-rest : goal.invariant-loop-rest
invariant-loop-rest g l = record {
  moved : Written (g.L.Link.written l.fn.link) (g.L.Link.written l.link) l.bytes l.rest;
  left : g.L.Link.left l.link ≡ g.L.Link.left l.fn.link;
  calm : g.L.Link.faults l.link ≡ g.L.Link.faults l.fn.link;
}

abbrev pub decreases-loop-rest : goal.decreases-loop-rest
decreases-loop-rest g l = length l.rest
