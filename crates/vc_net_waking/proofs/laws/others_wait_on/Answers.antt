use Rattle.vc_net_waking.proofs.GiverLaws.{others_wait_on, sizes_stay}
use Rattle.vc_net_waking.proofs.laws.others_wait_on.Goals as goal

pub returns-clause-others : goal.returns-clause-others
returns-clause-others c = others_wait_on

pub returns-clause-sizes : goal.returns-clause-sizes
returns-clause-sizes c = sizes_stay
