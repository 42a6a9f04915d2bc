use Rattle.vc_net_waking.proofs.StartLaws.{beginners_are_on, each_touches_something}
use Rattle.vc_net_waking.proofs.laws.beginners_are_on.Goals as goal

pub returns-clause-each : goal.returns-clause-each
returns-clause-each c = each_touches_something

pub returns-clause-all : goal.returns-clause-all
returns-clause-all c = beginners_are_on
