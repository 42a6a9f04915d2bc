use Rattle.vc_net_sources.proofs.GiverLaws.{found_refutes}
use Rattle.vc_net_sources.proofs.laws.found_refutes.Goals as goal

pub returns : goal.returns
returns c = found_refutes
