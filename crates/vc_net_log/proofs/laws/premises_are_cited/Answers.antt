use Rattle.vc_net_log.proofs.LogLaws.{premises_are_cited}
use Rattle.vc_net_log.proofs.laws.premises_are_cited.Goals as goal

pub returns : goal.returns
returns c = premises_are_cited
