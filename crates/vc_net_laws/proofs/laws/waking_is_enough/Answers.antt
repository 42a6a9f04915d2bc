use Rattle.vc_net_laws.proofs.NetLaws.Waking.{givers_wake_themselves, woken_is_enough}
use Rattle.vc_net_laws.proofs.laws.waking_is_enough.Goals as goal

pub returns-clause-others : goal.returns-clause-others
returns-clause-others c = woken_is_enough

pub returns-clause-itself : goal.returns-clause-itself
returns-clause-itself c = givers_wake_themselves
