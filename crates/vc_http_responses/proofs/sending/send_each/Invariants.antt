use Rattle.std.proofs.Common.{◌≡◌, drop}
use Rattle.std.specs.Prelude.{flat_map}
use Rattle.vc_outside.proofs.Pieces.{Written}
use Rattle.vc_http_responses.proofs.sending.send_each.Given as goal

abbrev pub invariant-loop-text : goal.invariant-loop-text
invariant-loop-text g l = record {
  moved : Written (g.L.Link.written l.fn.link) (g.L.Link.written l.link) (flat_map (λ text. text.now) l.texts)
      (flat_map (λ text. text.now) (drop l.text-index l.texts));
  left : g.L.Link.left l.link ≡ g.L.Link.left l.fn.link;
  calm : g.L.Link.faults l.link ≡ g.L.Link.faults l.fn.link;
}
