-- What begins neither a name nor a number is marked by its first byte.
use Rattle.std.proofs.Common.{sym, ◌∙◌}
use Rattle.std.proofs.lemmas.List.{take_rest}
use Rattle.vc_syntax_tokens.proofs.Lengths.{marked}
use Rattle.vc_syntax_tokens.proofs.lexing.lexeme_at.Goals as goal

pub returns-in-len1-up-3 : goal.returns-in-len1-up-3
returns-in-len1-up-3 c =
    rw (marked c.args.bytes.now c.in-len1-up.len_at_least (sym c.begins_name.ensures ∙ c.if-begins_name.false)
    (sym c.is_ascii_digit.ensures.value ∙ c.if-is_ascii_digit.false))
    (rw (take_rest c.args.bytes.now 1) at c.marked_at.ensures)
