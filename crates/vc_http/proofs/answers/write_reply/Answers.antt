use Rattle.std.proofs.Common.{◌∙◌}
use Rattle.vc_http.proofs.AnswerLaws.{sends_as}
use Rattle.vc_http.proofs.answers.write_reply.Goals as goal

pub returns-clause-sends : goal.returns-clause-sends
returns-clause-sends g c =
    sends_as c.write_response.result (g.L.Link.written c.args.link.now) (g.L.Link.written c.write_response.new.link)
    (g.L.Link.faults c.args.link.now) (g.L.Link.faults c.write_response.new.link) c.args.keep
    (c.as_u16.ensures.value ∙ c.status_of.ensures) (c.bytes.ensures ∙ c.in-Ok.ensures) c.write_response.ensures.sends
