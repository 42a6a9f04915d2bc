use Rattle.vc_rule_premises.proofs.DecidingLaws.{deciding_suffices}
use Rattle.vc_rule_premises.proofs.laws.deciding_suffices.Goals as goal

pub returns : goal.returns
returns c = deciding_suffices
