use Rattle.vc_net_laws.proofs.NetLaws.Triggers.{triggers_are_needed}
use Rattle.vc_net_laws.proofs.laws.triggers_are_needed.Goals as goal

pub returns : goal.returns
returns c = triggers_are_needed
