-- The law is proved over the definitions.
use Rattle.vc_syntax_tokens.proofs.LexemesGood.{tokens_good}
use Rattle.vc_syntax_tokens.proofs.lexing.tokens_are_lexemes.Goals as goal

pub returns : goal.returns
returns c = tokens_good
