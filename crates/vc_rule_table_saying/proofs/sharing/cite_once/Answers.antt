use Rattle.std.proofs.Common.{Bool, ap, ◌∙◌}
use Rattle.vc_rule_yield.specs.Yielding.{Yielded}
use Rattle.vc_rule_premises.specs.Citing.{cited_all}
use Rattle.vc_rule_table_saying.specs.Calls.{reasons_of}
use Rattle.vc_rule_table_saying.specs.Sharing.{citing, kept}
use Rattle.vc_rule_table_saying.proofs.sharing.cite_once.Goals as goal

pub returns-then-not-shared : goal.returns-then-not-shared
returns-then-not-shared g c =
    let reasons = reasons_of g.V.View.seen c.args.call.now in
    c.cite_all.ensures
    ∙ ap (λ (y : Yielded). cited_all y reasons)
    (c.requires.citing.cites
    ∙ ap (λ (b : Bool). citing b reasons (kept c.args.base c.args.out.now)) c.if-not-shared.true)

pub returns-else-not-shared : goal.returns-else-not-shared
returns-else-not-shared g c =
    let reasons = reasons_of g.V.View.seen c.args.call.now in
    c.requires.citing.cites
    ∙ ap (λ (b : Bool). citing b reasons (kept c.args.base c.args.out.now)) c.if-not-shared.false
