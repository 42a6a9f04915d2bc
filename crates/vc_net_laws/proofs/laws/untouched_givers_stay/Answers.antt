use Rattle.vc_net_laws.proofs.NetLaws.Waking.{unchanged_gives_the_same, untouched_gives_the_same}
use Rattle.vc_net_laws.proofs.laws.untouched_givers_stay.Goals as goal

pub returns-clause-added : goal.returns-clause-added
returns-clause-added c = untouched_gives_the_same

pub returns-clause-changed : goal.returns-clause-changed
returns-clause-changed c = unchanged_gives_the_same
