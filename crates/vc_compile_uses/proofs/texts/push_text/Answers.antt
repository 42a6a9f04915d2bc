use Rattle.std.proofs.Common.{◌∙◌}
use Rattle.vc_compile_uses.proofs.GrowingLemmas.{numbered_more}
use Rattle.vc_compile_uses.proofs.texts.push_text.Goals as goal

pub returns-clause-numbered : goal.returns-clause-numbered
returns-clause-numbered c = λ other.
    numbered_more _ _ c.args.all.now _ c.args.text.now _ other _ (c.in_ok-add.ensures other) (c.requires other)
    (c.in_ok-number.ensures ∙ c.len.ensures) c.in_ok-word.ensures c.in_ok-push.ensures.ok
