use Rattle.vc_tree_laws.proofs.ModelTreeLaws.{spelled_keeps_statements}
use Rattle.vc_tree_laws.proofs.laws.spelled_models_keep_statements.Goals as goal

pub returns : goal.returns
returns c = spelled_keeps_statements
