use Rattle.vc_rule_sides.proofs.FollowingLaws.{compare_follows}
use Rattle.vc_rule_sides.proofs.laws.compare_follows.Goals as goal

pub returns : goal.returns
returns c = compare_follows
