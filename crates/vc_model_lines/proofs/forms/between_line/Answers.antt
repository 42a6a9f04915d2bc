use Rattle.vc_model_lines.proofs.FormLemmas.{not_three}
use Rattle.vc_model_lines.proofs.forms.between_line.Goals as goal

pub returns-then-words-ne3 : goal.returns-then-words-ne3
returns-then-words-ne3 c = not_three (λ word. word.now) c.args.words.now c.if-words-ne3.true
