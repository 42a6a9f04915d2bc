use Rattle.vc_rule.proofs.StandingLaws.{found_stands}
use Rattle.vc_rule.proofs.laws.found_stands.Goals as goal

pub returns : goal.returns
returns c = found_stands
