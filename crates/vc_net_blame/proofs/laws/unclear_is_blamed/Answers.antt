use Rattle.vc_net_blame.proofs.CulpritLaws.{unclear_is_blamed}
use Rattle.vc_net_blame.proofs.laws.unclear_is_blamed.Goals as goal

pub returns : goal.returns
returns c = unclear_is_blamed
