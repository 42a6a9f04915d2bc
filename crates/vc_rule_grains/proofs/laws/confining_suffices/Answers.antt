use Rattle.vc_rule_grains.proofs.KindLaws.{confining_suffices}
use Rattle.vc_rule_grains.proofs.laws.confining_suffices.Goals as goal

pub returns : goal.returns
returns c = confining_suffices
