use Rattle.vc_rule_sides.proofs.SaidLaws.{compare_is_said}
use Rattle.vc_rule_sides.proofs.laws.compare_is_said.Goals as goal

pub returns : goal.returns
returns c = compare_is_said
