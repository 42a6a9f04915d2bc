use Rattle.vc_net_sources.proofs.GiverLaws.{found_is_concluded, found_is_given, found_is_new}
use Rattle.vc_net_sources.proofs.laws.found_is_given.Goals as goal

pub returns-clause-given : goal.returns-clause-given
returns-clause-given c = found_is_given

pub returns-clause-premises : goal.returns-clause-premises
returns-clause-premises c = found_is_concluded

pub returns-clause-new : goal.returns-clause-new
returns-clause-new c = found_is_new
