use Rattle.std.proofs.Common.{List, [], ◌+◌, ◌∙◌, ap, sym, arith}
use Rattle.std.specs.Prelude.{Option}
use Rattle.std.proofs.lemmas.Option.{slice_get-get_or}
use Rattle.vc_value.specs.declared.value.Value.{Value}
use Rattle.vc_rule_yield.specs.declared.scratch.Note.{Note}
use Rattle.vc_rule_table.specs.Noting.{changed_by, no_misfit}
use Rattle.vc_rule_table.proofs.ChangingLemmas.{changed_all, changed_from, changed_next}
use Rattle.vc_rule_table.proofs.notes.clear_notes.Goals as goal

pub loop-at-preserved : goal.loop-at-preserved
loop-at-preserved c =
    let clear : List Value → Note → Note = λ row note. no_misfit c.args.columns.now in
    ap (changed_from clear (c.loop-at.at + 1) c.args.rows.now)
    (c.clear_note.ensures
    ∙ sym (ap (λ (o : Option (List Value)). changed_by clear o c.loop-at.at c.loop-at.notes)
    (slice_get-get_or c.args.rows.now c.loop-at.at [] (omega (arith, c.loop-at-test.true)))))
    ∙ (changed_next clear c.loop-at.at c.args.rows.now c.loop-at.notes (omega (arith, c.loop-at-test.true))
    ∙ c.loop-at.invariant)

pub returns : goal.returns
returns c =
    let clear : List Value → Note → Note = λ row note. no_misfit c.args.columns.now in
    sym (changed_all clear c.loop-at.at c.args.rows.now c.loop-at.notes (omega (arith, c.loop-at-test.false)))
    ∙ c.loop-at.invariant
