use Rattle.vc_net_laws.proofs.NetLaws.Working.{agendas_may_grow, quiet_may_leave, work_ends}
use Rattle.vc_net_laws.proofs.laws.work_ends.Goals as goal

pub returns-clause-leave : goal.returns-clause-leave
returns-clause-leave c = quiet_may_leave

pub returns-clause-grow : goal.returns-clause-grow
returns-clause-grow c = agendas_may_grow

pub returns-clause-ends : goal.returns-clause-ends
returns-clause-ends c = work_ends
