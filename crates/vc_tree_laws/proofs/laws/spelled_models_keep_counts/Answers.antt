use Rattle.vc_tree_laws.proofs.CountLaws.{spelled_keeps_counts}
use Rattle.vc_tree_laws.proofs.laws.spelled_models_keep_counts.Goals as goal

pub returns : goal.returns
returns c = spelled_keeps_counts
