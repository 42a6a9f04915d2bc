use Rattle.vc_net_readers.proofs.TriggerLemmas.{glance_kept}
use Rattle.vc_net_readers.proofs.laws.glances_are_kept.Goals as goal

pub returns : goal.returns
returns c = glance_kept
