use Rattle.vc_tree_laws.proofs.ModelTreeLaws.{spelled_keeps_trees}
use Rattle.vc_tree_laws.proofs.laws.spelled_models_keep_trees.Goals as goal

pub returns : goal.returns
returns c = spelled_keeps_trees
