use Rattle.vc_net_agenda.proofs.AgendaLaws.{givers_are_there, one_more_waits, others_still_wait, who_comes_waits}
use Rattle.vc_net_agenda.proofs.laws.who_comes_waits.Goals as goal

pub returns-clause-others : goal.returns-clause-others
returns-clause-others c = others_still_wait

pub returns-clause-itself : goal.returns-clause-itself
returns-clause-itself c = who_comes_waits

pub returns-clause-length : goal.returns-clause-length
returns-clause-length c = one_more_waits

pub returns-clause-there : goal.returns-clause-there
returns-clause-there c = givers_are_there
