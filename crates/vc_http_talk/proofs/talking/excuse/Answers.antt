use Rattle.vc_http_talk.proofs.CourseLaws.{excused_half}
use Rattle.vc_http_talk.proofs.talking.excuse.Goals as goal

pub returns-in-Err-clause-excuses : goal.returns-in-Err-clause-excuses
returns-in-Err-clause-excuses g c =
    excused_half (g.L.Link.written c.args.link.now) (g.L.Link.written c.write_bad.new.link)
    (g.L.Link.faults c.args.link.now) (g.L.Link.faults c.write_bad.new.link) c.in-Err.ensures.err
    c.in-Err.ensures.cause.failed
