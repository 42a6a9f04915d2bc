-- Along the chain the rows with the grain come in their order.
use Rattle.std.proofs.Common.{List, subst, sym}
use Rattle.std.specs.Prelude.{Option}
use Rattle.vc_value.specs.declared.value.Value.{Value}
use Rattle.vc_rule_yield.specs.declared.scratch.Note.{Note}
use Rattle.vc_rule_table.specs.Noting.{HasNote}
use Rattle.vc_rule_table_grains.proofs.CallLaws.{on_begins, on_goes}
use Rattle.vc_rule_table_grains.proofs.ChainLemmas.{note_there, row_there}
use Rattle.vc_rule_table_grains.proofs.grains.cite_chain.Goals as goal

pub loop-row-init : goal.loop-row-init
loop-row-init g c =
    on_begins g.V.View.seen c.args.marked.now c.requires.call c.args.grain c.args.key c.requires.key c.args.out.now
    c.args.heads.now c.args.next.now c.requires.chains c.requires.inside

pub cite_row_with-requires-clause-noted : goal.cite_row_with-requires-clause-noted
cite_row_with-requires-clause-noted g c =
    let call = c.args.marked.now.call.now in
    let notes = λ (row : List Value) (o : Option Note).
    HasNote call.plan.now (g.V.View.seen call.view.now) call.columns.now row o in
    subst (λ (row : List Value). notes row c.note_at-note.result) (sym c.as_slice.ensures)
    (subst (notes c.in-Some.row.now) (sym c.note_at-note.ensures)
    (note_there call.plan.now (g.V.View.seen call.view.now) call.columns.now call.rows.now call.notes.now c.loop-row.at
    c.in-Some.row.now c.requires.call.0.1
    (row_there call.rows.now c.loop-row.at c.in-Some.row.now c.in-Some.ensures.lookup.3.0
    c.in-Some.ensures.lookup.1)))

pub loop-row-smaller : goal.loop-row-smaller
loop-row-smaller g c =
    (on_goes g.V.View.seen c.args.marked.now c.requires.call c.args.grain c.args.key c.requires.key c.args.out.now
    c.args.heads.now c.args.next.now c.requires.chains c.requires.inside c.loop-row.out c.cite_row_with.new.out
    c.loop-row.at c.loop-row.invariant c.in-Some.row.now c.as_slice.result.now c.in-Some.ensures.lookup.3.0
    c.in-Some.ensures.lookup.1 c.as_slice.ensures c.cite_row_with.ensures).0

pub loop-row-preserved : goal.loop-row-preserved
loop-row-preserved g c =
    (on_goes g.V.View.seen c.args.marked.now c.requires.call c.args.grain c.args.key c.requires.key c.args.out.now
    c.args.heads.now c.args.next.now c.requires.chains c.requires.inside c.loop-row.out c.cite_row_with.new.out
    c.loop-row.at c.loop-row.invariant c.in-Some.row.now c.as_slice.result.now c.in-Some.ensures.lookup.3.0
    c.in-Some.ensures.lookup.1 c.as_slice.ensures c.cite_row_with.ensures).1
