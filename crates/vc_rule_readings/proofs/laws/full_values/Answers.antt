use Rattle.vc_rule_readings.proofs.ReadingLemmas.{full_values}
use Rattle.vc_rule_readings.proofs.laws.full_values.Goals as goal

pub returns : goal.returns
returns c = full_values
