use Rattle.vc_net_laws.proofs.NetLaws.Wakings.{atoms_pay_for_turns, woken_are_few, work_is_enough}
use Rattle.vc_net_laws.proofs.laws.turns_are_few.Goals as goal

pub returns-clause-woken : goal.returns-clause-woken
returns-clause-woken c = woken_are_few

pub returns-clause-turns : goal.returns-clause-turns
returns-clause-turns c = atoms_pay_for_turns

pub returns-clause-rules : goal.returns-clause-rules
returns-clause-rules c = work_is_enough
