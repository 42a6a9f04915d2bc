use Rattle.vc_rule_table.proofs.SaidLaws.{table_is_said}
use Rattle.vc_rule_table.proofs.laws.table_is_said.Goals as goal

pub returns : goal.returns
returns c = table_is_said
