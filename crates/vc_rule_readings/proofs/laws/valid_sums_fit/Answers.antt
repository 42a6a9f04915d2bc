use Rattle.vc_rule_readings.proofs.PartLemmas.{valid_sums_fit}
use Rattle.vc_rule_readings.proofs.laws.valid_sums_fit.Goals as goal

pub returns : goal.returns
returns c = valid_sums_fit
