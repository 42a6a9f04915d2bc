use Rattle.vc_rule.proofs.FoundLaws.{found_is_given}
use Rattle.vc_rule.proofs.laws.found_is_given.Goals as goal

pub returns : goal.returns
returns c = found_is_given
