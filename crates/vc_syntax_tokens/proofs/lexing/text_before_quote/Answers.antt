-- Each byte goes to the text as the definition says.
use Rattle.std.proofs.Common.{sym, ◌∙◌}
use Rattle.std.proofs.lemmas.List.{take_rest}
use Rattle.vc_syntax_tokens.proofs.Quotes.{text_step}
use Rattle.vc_syntax_tokens.proofs.lexing.text_before_quote.Goals as goal

pub loop-rest-preserved : goal.loop-rest-preserved
loop-rest-preserved c =
    rw (take_rest c.loop-rest.rest.now 1, c.in_ok-put_byte.ensures, c.may_close-after_quote.ensures)
    (sym (text_step c.loop-rest.text c.loop-rest.after_quote c.loop-rest.rest.now c.in-len1-up.len_at_least
    (sym c.is_past_text.ensures ∙ c.if-is_past_text.false)) ∙ c.loop-rest.invariant)
