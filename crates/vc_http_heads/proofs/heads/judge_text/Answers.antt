use Rattle.std.proofs.Common.{Some, ◌∙◌}
use Rattle.vc_http_heads.proofs.HeadLaws.{said_alike}
use Rattle.vc_http_heads.proofs.heads.judge_text.Goals as goal

pub returns-in-Some : goal.returns-in-Some
returns-in-Some c =
    let read = c.in-Some.ensures.read in (
      Some read.0,
      read.1,
      c.judge_fields.ensures
          ∙ said_alike c.args.size c.args.text.now c.read_head.new.fields c.in-Some.spans read.0 read.2,
    )
