use Rattle.std.proofs.Common.{List, [], subst, sym}
use Rattle.vc_value.specs.declared.value.Value.TheVariants.{Text}
use Rattle.vc_plan.specs.declared.rules.Operand.TheVariants.{Constant}
use Rattle.vc_rule_yield.specs.declared.scratch.Note.{Note}
use Rattle.vc_rule_table.specs.Noting.{AreNotesOf}
use Rattle.vc_rule_table.proofs.NotingLemmas.{notes_more, notes_none}
use Rattle.vc_rule_table.proofs.notes.note_columns.Goals as goal

pub loop-place-init : goal.loop-place-init
loop-place-init g c =
    let plan = c.args.plan.now in
    let seen = g.V.View.seen c.args.view.now in
    let columns = c.args.columns.now in
    subst (λ (notes : List Note). AreNotesOf plan seen columns [] c.args.rows.now notes) (sym c.clear_notes.ensures)
    (notes_none plan seen columns c.args.rows.now c.args.notes.now.rows)

pub loop-place-preserved : goal.loop-place-preserved
loop-place-preserved g c =
    notes_more c.args.plan.now (g.V.View.seen c.args.view.now) c.args.columns.now c.loop-place.place
    (record { column = 0; operand = Constant (Text 0) }) c.args.rows.now c.loop-place.notes.rows
    c.note_column.new.notes.rows c.loop-place-test.true c.loop-place.invariant c.note_column.ensures
