use Rattle.vc_net_waking.proofs.WakingLaws.{waking_is_few, woken_wait}
use Rattle.vc_net_waking.proofs.laws.woken_wait.Goals as goal

pub returns-clause-all : goal.returns-clause-all
returns-clause-all c = woken_wait

pub returns-clause-few : goal.returns-clause-few
returns-clause-few c = waking_is_few
