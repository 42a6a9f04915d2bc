use Rattle.std.proofs.Common.{Ok, ap, ◌∙◌}
use Rattle.vc_http_heads.proofs.HeadLaws.{not_there}
use Rattle.vc_http_heads.proofs.reading.read_head.Goals as goal

pub returns-else-spans-text-clause-refused : goal.returns-else-spans-text-clause-refused
returns-else-spans-text-clause-refused c =
    not_there c.args.text.now _ c.parse_request.new.headers c.in-Ok-Complete.spans c.parse_request.result
    c.requires.room c.requires.lines (c.in-Ok-Complete.is ∙ ap Ok c.in-Ok-Complete.field-0-is)
    c.parse_request.ensures.found c.if-spans-text.false
