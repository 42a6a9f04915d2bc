use Rattle.vc_http_talk.proofs.EndLaws.{decided}
use Rattle.vc_http_talk.proofs.laws.bytes_decide.Goals as goal

pub returns : goal.returns
returns c = decided
