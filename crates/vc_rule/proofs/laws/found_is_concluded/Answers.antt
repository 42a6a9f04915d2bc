use Rattle.vc_rule.proofs.FollowingLaws.{found_is_concluded, found_is_new}
use Rattle.vc_rule.proofs.laws.found_is_concluded.Goals as goal

pub returns-clause-premises : goal.returns-clause-premises
returns-clause-premises c = found_is_concluded

pub returns-clause-atoms : goal.returns-clause-atoms
returns-clause-atoms c = found_is_new
