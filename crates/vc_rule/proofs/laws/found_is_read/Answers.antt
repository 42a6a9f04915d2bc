use Rattle.vc_rule.proofs.ReadingLaws.{found_is_read}
use Rattle.vc_rule.proofs.laws.found_is_read.Goals as goal

pub returns : goal.returns
returns c = found_is_read
