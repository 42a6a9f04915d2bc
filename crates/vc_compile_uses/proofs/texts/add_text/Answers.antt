use Rattle.std.proofs.Common.{◌≡◌, ◌∙◌, sym, subst, OnOk}
use Rattle.vc_compile_uses.proofs.GrowingLemmas.{is_known, with_new, with_known}
use Rattle.vc_compile_uses.proofs.texts.add_text.Goals as goal

pub returns-then-is_none-clause-all : goal.returns-then-is_none-clause-all
returns-then-is_none-clause-all c =
    let texts = c.args.all.now in
    let text = c.args.text.now in
    let new = sym (is_known c.find.result texts text (c.find.ensures ∙ c.requires text)) ∙ c.if-is_none.ensures in
    subst (λ grown. OnOk c.push_text.result (c.push_text.new.all ≡ grown)) (sym (with_new texts text new))
    c.push_text.ensures.all

pub returns-else-is_none-clause-all : goal.returns-else-is_none-clause-all
returns-else-is_none-clause-all c =
    let texts = c.args.all.now in
    let text = c.args.text.now in
    sym (with_known texts text
    (sym (is_known c.find.result texts text (c.find.ensures ∙ c.requires text)) ∙ c.if-is_none.ensures))
