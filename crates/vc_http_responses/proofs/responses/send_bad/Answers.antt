use Rattle.std.proofs.Common.{OnErr, OnOk, subst}
use Rattle.std.specs.Prelude.{codes}
use Rattle.std.specs.Io.KnownBytes.{Appends}
use Rattle.vc_outside.specs.Sinks.{AppendsFront}
use Rattle.vc_http_responses.proofs.ResponseLaws.{bad_texts}
use Rattle.vc_http_responses.proofs.responses.send_bad.Goals as goal

pub returns-clause-ok : goal.returns-clause-ok
returns-clause-ok g c =
    let written = g.L.Link.written in
    subst (λ bytes. OnOk c.send_each.result (Appends (written c.args.link.now) (written c.send_each.new.link) bytes))
    (bad_texts (codes "HTTP/1.1 ") c.args.status.now
    (codes "\r\ncontent-type: text/plain; charset=utf-8\r\ncontent-length: ") c.args.size.now (codes "\r\n")
    c.args.allow.now (codes "connection: close\r\n") (codes "\r\n") c.args.body.now)
    c.send_each.ensures.ok

pub returns-clause-err : goal.returns-clause-err
returns-clause-err g c =
    let written = g.L.Link.written in
    subst (λ bytes. OnErr c.send_each.result
    (AppendsFront (written c.args.link.now) (written c.send_each.new.link) bytes))
    (bad_texts (codes "HTTP/1.1 ") c.args.status.now
    (codes "\r\ncontent-type: text/plain; charset=utf-8\r\ncontent-length: ") c.args.size.now (codes "\r\n")
    c.args.allow.now (codes "connection: close\r\n") (codes "\r\n") c.args.body.now)
    c.send_each.ensures.err
