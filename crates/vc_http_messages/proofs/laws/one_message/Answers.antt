use Rattle.vc_http_messages.proofs.MessageLaws.{message_one}
use Rattle.vc_http_messages.proofs.laws.one_message.Goals as goal

pub returns : goal.returns
returns c = message_one
