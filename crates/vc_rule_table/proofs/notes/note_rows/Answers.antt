use Rattle.std.proofs.Common.{subst, sym}
use Rattle.std.specs.Prelude.{Option}
use Rattle.vc_rule_yield.specs.declared.scratch.Notes.{Notes}
use Rattle.vc_rule_table.specs.Noting.{AreNotes, noted_in}
use Rattle.vc_rule_table.proofs.NotingLemmas.{no_notes}
use Rattle.vc_rule_table.proofs.notes.note_rows.Goals as goal

pub returns-in_default : goal.returns-in_default
returns-in_default g c =
    let plan = c.args.plan.now in
    let seen = g.V.View.seen c.args.view.now in
    subst (λ (o : Option Notes). AreNotes plan seen c.args.columns.now c.args.rows.now (noted_in o))
    (sym c.in_default.is)
    (no_notes plan seen c.args.columns.now c.args.rows.now)
