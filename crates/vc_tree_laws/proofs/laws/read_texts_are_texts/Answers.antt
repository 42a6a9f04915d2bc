use Rattle.vc_tree_laws.proofs.TreeLaws.{read_texts_are_texts}
use Rattle.vc_tree_laws.proofs.laws.read_texts_are_texts.Goals as goal

pub returns : goal.returns
returns c = read_texts_are_texts
