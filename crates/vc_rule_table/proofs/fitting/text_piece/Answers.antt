use Rattle.std.proofs.Common.{◌∙◌, sym}
use Rattle.vc_rule_table.proofs.FittingLemmas.{known_text, known_no_text}
use Rattle.vc_rule_table.proofs.fitting.text_piece.Goals as goal

pub returns-then-has_text : goal.returns-then-has_text
returns-then-has_text c a =
    known_text c.args.text c.args.texts.now a (sym c.has_text.ensures ∙ c.if-has_text.true)

pub returns-else-has_text : goal.returns-else-has_text
returns-else-has_text c a =
    known_no_text c.args.text c.args.texts.now a (sym c.has_text.ensures ∙ c.if-has_text.false)
