use Rattle.vc_rule_sides.proofs.PassingLaws.{equate_stands}
use Rattle.vc_rule_sides.proofs.laws.equate_stands.Goals as goal

pub returns : goal.returns
returns c = equate_stands
