use Rattle.vc_rule_table.proofs.FewLaws.{table_is_few}
use Rattle.vc_rule_table.proofs.laws.table_is_few.Goals as goal

pub returns : goal.returns
returns c = table_is_few
