use Rattle.vc_rule_premises.proofs.SufficingLaws.{premises_are_a_part}
use Rattle.vc_rule_premises.proofs.laws.premises_are_a_part.Goals as goal

pub returns : goal.returns
returns c = premises_are_a_part
