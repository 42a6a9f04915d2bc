use Rattle.vc_http_talk.proofs.TalkLaws.{in_time}
use Rattle.vc_http_talk.proofs.laws.ends_in_time.Goals as goal

pub returns : goal.returns
returns c = in_time
