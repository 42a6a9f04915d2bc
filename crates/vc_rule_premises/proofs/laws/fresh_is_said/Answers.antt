use Rattle.vc_rule_premises.proofs.SayingLaws.{fresh_is_said}
use Rattle.vc_rule_premises.proofs.laws.fresh_is_said.Goals as goal

pub returns : goal.returns
returns c = fresh_is_said
