use Rattle.vc_rule_premises.proofs.DecidingLaws.{acting_suffices}
use Rattle.vc_rule_premises.proofs.laws.acting_suffices.Goals as goal

pub returns : goal.returns
returns c = acting_suffices
