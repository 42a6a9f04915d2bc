use Rattle.vc_rule.proofs.FollowingLaws.{found_refutes}
use Rattle.vc_rule.proofs.laws.found_refutes.Goals as goal

pub returns : goal.returns
returns c = found_refutes
