use Rattle.vc_net_laws.proofs.NetLaws.Working.{atoms_come, work_begins, work_is_kept}
use Rattle.vc_net_laws.proofs.laws.work_goes_on.Goals as goal

pub returns-clause-begins : goal.returns-clause-begins
returns-clause-begins c = work_begins

pub returns-clause-comes : goal.returns-clause-comes
returns-clause-comes c = atoms_come

pub returns-clause-kept : goal.returns-clause-kept
returns-clause-kept c = work_is_kept
