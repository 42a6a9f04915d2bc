use Rattle.vc_net_log.proofs.LogLaws.{new_steps_are_free}
use Rattle.vc_net_log.proofs.laws.new_steps_are_free.Goals as goal

pub returns : goal.returns
returns c = new_steps_are_free
