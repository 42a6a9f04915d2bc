use Rattle.vc_rule.proofs.BoundLaws.{clear_lies_in_grains}
use Rattle.vc_rule.proofs.laws.clear_lies_in_grains.Goals as goal

pub returns : goal.returns
returns c = clear_lies_in_grains
