use Rattle.vc_rule_sides.proofs.PassingLaws.{equate_is_read}
use Rattle.vc_rule_sides.proofs.laws.equate_is_read.Goals as goal

pub returns : goal.returns
returns c = equate_is_read
