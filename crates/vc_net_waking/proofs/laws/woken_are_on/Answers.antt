use Rattle.vc_net_waking.proofs.SpendLaws.{rules_woken_are_few, woken_are_on}
use Rattle.vc_net_waking.proofs.laws.woken_are_on.Goals as goal

pub returns-clause-on : goal.returns-clause-on
returns-clause-on c = woken_are_on

pub returns-clause-few : goal.returns-clause-few
returns-clause-few c = rules_woken_are_few
