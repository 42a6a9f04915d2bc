use Rattle.std.proofs.Common.{◌∙◌}
use Rattle.vc_http_responses.proofs.ResponseLaws.{texts_cut, texts_more}
use Rattle.vc_http_responses.proofs.sending.send_each.Goals as goal

pub returns-in-Err-clause-err : goal.returns-in-Err-clause-err
returns-in-Err-clause-err g c =
    texts_cut c.args.texts.now (λ text. text.now) c.loop-text.text-index _ c.loop-text-test.true
    (g.L.Link.written c.args.link.now) (g.L.Link.written c.loop-text.link)
    (g.L.Link.written c.send_text.new.link) c.loop-text.invariant.moved c.in-Err.ensures.err

pub loop-text-preserved : goal.loop-text-preserved
loop-text-preserved g c = record {
  moved = texts_more c.args.texts.now (λ text. text.now) c.loop-text.text-index _ c.loop-text-test.true
      (g.L.Link.written c.args.link.now) (g.L.Link.written c.loop-text.link)
      (g.L.Link.written c.send_text.new.link) c.loop-text.invariant.moved c.in-Ok.ensures.ok;
  left = c.send_text.ensures.left ∙ c.loop-text.invariant.left;
  calm = c.in-Ok.ensures.cause.calm ∙ c.loop-text.invariant.calm;
}
