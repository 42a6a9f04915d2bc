use Rattle.vc_net_laws.proofs.NetLaws.Forced.{sound_sets_grow, unclear_breaks}
use Rattle.vc_net_laws.proofs.laws.sound_sets_grow.Goals as goal

pub returns-clause-sound : goal.returns-clause-sound
returns-clause-sound c = sound_sets_grow

pub returns-clause-breaks : goal.returns-clause-breaks
returns-clause-breaks c = unclear_breaks
