use Rattle.vc_net_standing.proofs.ComingLaws.{who_may_come_stays_clear}
use Rattle.vc_net_standing.proofs.laws.who_may_come_stays_clear.Goals as goal

pub returns : goal.returns
returns c = who_may_come_stays_clear
