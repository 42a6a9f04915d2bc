use Rattle.vc_rule_table.proofs.FollowingLaws.{table_follows}
use Rattle.vc_rule_table.proofs.laws.table_follows.Goals as goal

pub returns : goal.returns
returns c = table_follows
