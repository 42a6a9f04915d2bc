use Rattle.std.proofs.Common.{List, ◌∙◌, ap, sym}
use Rattle.std.specs.Prelude.{slice_get, slice_set}
use Rattle.vc_rule_yield.specs.declared.scratch.Note.{Note}
use Rattle.vc_rule_table.specs.NotingColumns.{noted_next}
use Rattle.vc_rule_table.proofs.ChangingLemmas.{changed_there}
use Rattle.vc_rule_table.proofs.notes.note_row.Goals as goal

pub returns-in-Some : goal.returns-in-Some
returns-in-Some g c =
    let next = noted_next g.V.View.seen c.args.noting.now c.args.row.now in
    c.set.ensures
    ∙ (ap (slice_set c.args.notes.now c.args.at) c.note_more-next.ensures
    ∙ changed_there next c.args.at c.args.notes.now c.in-Some.note
    (ap (λ (notes : List Note). slice_get notes c.args.at) (sym c.as_slice.ensures)
    ∙ (sym c.note_at.ensures ∙ c.in-Some.is)))
