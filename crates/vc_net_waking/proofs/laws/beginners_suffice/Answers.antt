use Rattle.vc_net_waking.proofs.BeginningLaws.{beginners_suffice}
use Rattle.vc_net_waking.proofs.laws.beginners_suffice.Goals as goal

pub returns : goal.returns
returns c = beginners_suffice
