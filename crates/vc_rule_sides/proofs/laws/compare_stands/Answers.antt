use Rattle.vc_rule_sides.proofs.PassingLaws.{compare_stands}
use Rattle.vc_rule_sides.proofs.laws.compare_stands.Goals as goal

pub returns : goal.returns
returns c = compare_stands
