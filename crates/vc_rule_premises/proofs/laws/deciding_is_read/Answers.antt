use Rattle.vc_rule_premises.proofs.DecidingLaws.{deciding_is_read}
use Rattle.vc_rule_premises.proofs.laws.deciding_is_read.Goals as goal

pub returns : goal.returns
returns c = deciding_is_read
