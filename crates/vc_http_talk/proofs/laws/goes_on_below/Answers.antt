use Rattle.vc_http_talk.proofs.TalkLaws.{on_below}
use Rattle.vc_http_talk.proofs.laws.goes_on_below.Goals as goal

pub returns : goal.returns
returns c = on_below
