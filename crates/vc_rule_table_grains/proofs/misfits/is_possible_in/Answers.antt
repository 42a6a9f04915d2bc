use Rattle.std.proofs.Common.{◌∙◌, subst}
use Rattle.std.specs.Prelude.{Option}
use Rattle.vc_rule_yield.specs.declared.scratch.Note.{Note}
use Rattle.vc_rule_table.specs.Noting.{HasNote}
use Rattle.vc_rule_table.proofs.NotingLemmas.{possible_is}
use Rattle.vc_rule_table_grains.proofs.misfits.is_possible_in.Goals as goal

pub returns-in-Some : goal.returns-in-Some
returns-in-Some g c =
    let plan = c.args.plan.now in
    let seen = g.V.View.seen c.args.view.now in
    let row = c.args.row.now in
    let columns = c.args.columns.now in
    c.is_possible_noted.ensures
    ∙ possible_is plan seen row c.args.but columns c.in-Some.note
    (subst (λ (o : Option Note). HasNote plan seen columns row o) c.in-Some.is c.requires.noted)
