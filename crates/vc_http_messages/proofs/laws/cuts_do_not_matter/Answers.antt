use Rattle.vc_http_messages.proofs.MessageLaws.{message_more}
use Rattle.vc_http_messages.proofs.laws.cuts_do_not_matter.Goals as goal

pub returns : goal.returns
returns c = message_more
