use Rattle.std.proofs.Common.{◌≡◌, length, false}
use Rattle.vc_syntax_tokens.proofs.Quotes.{in_front}
use Rattle.vc_syntax_tokens.specs.Lexemes.{text_before_quote}
use Rattle.vc_syntax_tokens.proofs.lexing.text_before_quote.Given as goal

abbrev pub invariant-loop-rest : goal.invariant-loop-rest
invariant-loop-rest l = in_front l.text (text_before_quote l.after_quote l.rest) ≡ text_before_quote false l.bytes

abbrev pub decreases-loop-rest : goal.decreases-loop-rest
decreases-loop-rest l = length l.rest
