use Rattle.vc_rule.proofs.FollowingLaws.{found_follows}
use Rattle.vc_rule.proofs.laws.found_follows.Goals as goal

pub returns : goal.returns
returns c = found_follows
