-- Reading finds one tree.
use Rattle.vc_syntax.proofs.SpelledLaws.{one_tree}
use Rattle.vc_syntax.proofs.dependencies.one_tree_is_spelled.Goals as goal

pub returns : goal.returns
returns c = one_tree
