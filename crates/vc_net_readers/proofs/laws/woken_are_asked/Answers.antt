use Rattle.vc_net_readers.proofs.AskedLaws.{asked_touch}
use Rattle.vc_net_readers.proofs.ReaderLaws.{woken_are_asked}
use Rattle.vc_net_readers.proofs.laws.woken_are_asked.Goals as goal

pub returns-clause-all : goal.returns-clause-all
returns-clause-all c = woken_are_asked

pub returns-clause-touch : goal.returns-clause-touch
returns-clause-touch c = asked_touch
