use Rattle.vc_rule_table.proofs.StandingLaws.{table_stands}
use Rattle.vc_rule_table.proofs.laws.table_stands.Goals as goal

pub returns : goal.returns
returns c = table_stands
