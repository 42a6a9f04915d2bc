use Rattle.vc_net_sources.proofs.SilenceLaws.{resting_are_quiet}
use Rattle.vc_net_sources.proofs.laws.resting_are_quiet.Goals as goal

pub returns : goal.returns
returns c = resting_are_quiet
