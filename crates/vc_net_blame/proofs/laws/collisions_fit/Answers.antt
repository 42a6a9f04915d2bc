use Rattle.vc_net_blame.proofs.CollidingLemmas.{collisions_fit}
use Rattle.vc_net_blame.proofs.laws.collisions_fit.Goals as goal

pub returns : goal.returns
returns c = collisions_fit
