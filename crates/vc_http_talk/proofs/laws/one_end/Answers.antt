use Rattle.vc_http_talk.proofs.EndLaws.{ends_once}
use Rattle.vc_http_talk.proofs.laws.one_end.Goals as goal

pub returns : goal.returns
returns c = ends_once
