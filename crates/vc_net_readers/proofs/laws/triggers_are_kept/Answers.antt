use Rattle.vc_net_readers.proofs.TriggerLemmas.{trigger_kept}
use Rattle.vc_net_readers.proofs.laws.triggers_are_kept.Goals as goal

pub returns : goal.returns
returns c = trigger_kept
