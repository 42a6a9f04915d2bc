use Rattle.vc_net_laws.proofs.NetLaws.Forced.{clash_breaks, quiet_settles}
use Rattle.vc_net_laws.proofs.laws.sound_sets_end.Goals as goal

pub returns-clause-settles : goal.returns-clause-settles
returns-clause-settles c = quiet_settles

pub returns-clause-breaks : goal.returns-clause-breaks
returns-clause-breaks c = clash_breaks
