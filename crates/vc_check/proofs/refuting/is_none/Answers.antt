-- Who reads nothing reads no premise.
use Rattle.vc_check.proofs.ClashLemmas.{some_unread}
use Rattle.vc_check.proofs.refuting.is_none.Goals as goal

pub returns-in-len1-up : goal.returns-in-len1-up
returns-in-len1-up c = some_unread c.args.premises.now c.in-len1-up.len_at_least
