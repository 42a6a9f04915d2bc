use Rattle.vc_net_waking.proofs.SpendLaws.{rules_are_within_work}
use Rattle.vc_net_waking.proofs.laws.rules_are_within_work.Goals as goal

pub returns : goal.returns
returns c = rules_are_within_work
