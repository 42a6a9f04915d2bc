use Rattle.vc_rule_table.proofs.ReadLaws.{table_is_read}
use Rattle.vc_rule_table.proofs.laws.table_is_read.Goals as goal

pub returns : goal.returns
returns c = table_is_read
