use Rattle.vc_rule_sides.proofs.SaidLaws.{equate_is_said}
use Rattle.vc_rule_sides.proofs.laws.equate_is_said.Goals as goal

pub returns : goal.returns
returns c = equate_is_said
