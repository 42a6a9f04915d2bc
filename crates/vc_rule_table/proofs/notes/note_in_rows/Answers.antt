use Rattle.std.proofs.Common.{◌+◌, ◌∙◌, ap, sym, arith}
use Rattle.vc_rule_table.specs.NotingColumns.{noted_next}
use Rattle.vc_rule_table.proofs.ChangingLemmas.{changed_all, changed_from, changed_next}
use Rattle.vc_rule_table.proofs.notes.note_in_rows.Goals as goal

pub loop-at-preserved : goal.loop-at-preserved
loop-at-preserved g c =
    let next = noted_next g.V.View.seen c.args.noting.now in
    ap (changed_from next (c.loop-at.at + 1) c.args.rows.now) c.note_row_at.ensures
    ∙ (changed_next next c.loop-at.at c.args.rows.now c.loop-at.notes (omega (arith, c.loop-at-test.true))
    ∙ c.loop-at.invariant)

pub returns : goal.returns
returns g c =
    let next = noted_next g.V.View.seen c.args.noting.now in
    sym (changed_all next c.loop-at.at c.args.rows.now c.loop-at.notes (omega (arith, c.loop-at-test.false)))
    ∙ c.loop-at.invariant
