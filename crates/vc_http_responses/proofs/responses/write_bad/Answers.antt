use Rattle.std.proofs.Common.{OnErr, length, subst}
use Rattle.std.specs.Fmt.{decimal}
use Rattle.std.specs.Prelude.{codes}
use Rattle.vc_outside.specs.Sinks.{AppendsFront}
use Rattle.vc_http_routes.specs.Methods.{methods_in}
use Rattle.vc_http_responses.specs.Responses.{allow_field, bad_body, status_text}
use Rattle.vc_http_responses.proofs.ResponseLaws.{same_parts}
use Rattle.vc_http_responses.proofs.responses.write_bad.Goals as goal

pub returns-clause-err : goal.returns-clause-err
returns-clause-err g c =
    let written = g.L.Link.written in
    subst (λ bytes. OnErr c.send_bad.result
    (AppendsFront (written c.args.link.now) (written c.send_bad.new.link) bytes))
    (same_parts c.status_text.result.now c.bad_length.result.now c.allow_field.result.now c.bad_body.result.now
    (status_text c.args.status) (decimal (length (bad_body c.args.status))) (allow_field (methods_in c.args.allow))
    (bad_body c.args.status) (codes "connection: close\r\n") c.status_text.ensures c.bad_length.ensures
    c.allow_field.ensures c.bad_body.ensures) c.send_bad.ensures.err
