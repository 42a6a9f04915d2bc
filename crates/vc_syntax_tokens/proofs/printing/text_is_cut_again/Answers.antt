-- The law is proved over the definitions.
use Rattle.vc_syntax_tokens.proofs.TextsAgain.{texts_again}
use Rattle.vc_syntax_tokens.proofs.printing.text_is_cut_again.Goals as goal

pub returns : goal.returns
returns c = texts_again
