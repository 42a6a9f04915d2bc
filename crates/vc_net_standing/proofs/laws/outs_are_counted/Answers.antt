use Rattle.vc_net_standing.proofs.CountLaws.{outs_are_counted}
use Rattle.vc_net_standing.proofs.laws.outs_are_counted.Goals as goal

pub returns : goal.returns
returns c = outs_are_counted
