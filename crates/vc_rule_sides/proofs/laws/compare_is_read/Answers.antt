use Rattle.vc_rule_sides.proofs.PassingLaws.{compare_is_read}
use Rattle.vc_rule_sides.proofs.laws.compare_is_read.Goals as goal

pub returns : goal.returns
returns c = compare_is_read
