use Rattle.vc_rule_sides.proofs.FollowingLaws.{equate_follows}
use Rattle.vc_rule_sides.proofs.laws.equate_follows.Goals as goal

pub returns : goal.returns
returns c = equate_follows
