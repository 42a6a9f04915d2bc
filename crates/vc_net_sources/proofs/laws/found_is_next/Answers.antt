use Rattle.vc_net_sources.proofs.GiverLaws.{found_is_next}
use Rattle.vc_net_sources.proofs.laws.found_is_next.Goals as goal

pub returns : goal.returns
returns c = found_is_next
