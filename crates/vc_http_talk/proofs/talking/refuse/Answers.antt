use Rattle.vc_http_talk.proofs.CourseLaws.{refused_half, refused_whole}
use Rattle.vc_http_talk.proofs.talking.refuse.Goals as goal

pub returns-in-Ok-clause-refuses : goal.returns-in-Ok-clause-refuses
returns-in-Ok-clause-refuses g c =
    refused_whole c.args.status c.args.allow (g.L.Link.written c.args.link.now) (g.L.Link.written c.write_bad.new.link)
    (g.L.Link.faults c.args.link.now) (g.L.Link.faults c.write_bad.new.link) c.in-Ok.ensures.ok
    c.in-Ok.ensures.cause.calm

pub returns-in-Err-clause-refuses : goal.returns-in-Err-clause-refuses
returns-in-Err-clause-refuses g c =
    refused_half c.args.status c.args.allow (g.L.Link.written c.args.link.now) (g.L.Link.written c.write_bad.new.link)
    (g.L.Link.faults c.args.link.now) (g.L.Link.faults c.write_bad.new.link) c.in-Err.ensures.err
    c.in-Err.ensures.cause.failed
