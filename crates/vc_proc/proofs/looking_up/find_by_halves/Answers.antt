-- What stands at the place has the keys, or no row has them.
use Rattle.std.proofs.Common.{ap, sym, ◌∙◌}
use Rattle.std.specs.Prelude.{Some}
use Rattle.vc_plan.specs.Parts.{procedure_reading}
use Rattle.vc_plan.specs.Statements.{has_keys}
use Rattle.vc_proc.proofs.PlaceLemmas.{no_row, other_row, row_found}
use Rattle.vc_proc.proofs.looking_up.find_by_halves.Goals as goal

pub returns-then-has_keys-clause-some : goal.returns-then-has_keys-clause-some
returns-then-has_keys-clause-some g c =
    let plan = c.args.plan.now in
    let reading
    = procedure_reading plan (g.R.View.seen c.args.stage.now) c.args.overlay.now
    (g.R.Reading.holdings c.args.stage.now) in
    let keys = c.args.keys.now in
    row_found plan reading keys c.args.rows.now c.args.order.now c.requires.order c.place_among-place.result
    c.place_among-place.ensures c.in-Some.number (sym c.number_at.ensures ∙ c.in-Some.is)
    (ap (has_keys plan reading keys) (sym c.row_at-row.ensures) ∙ (sym c.has_keys.ensures ∙ c.if-has_keys.true))
    ∙ ap Some (sym c.row_at-row.ensures)

pub returns-else-has_keys-clause-none : goal.returns-else-has_keys-clause-none
returns-else-has_keys-clause-none g c =
    let plan = c.args.plan.now in
    let reading
    = procedure_reading plan (g.R.View.seen c.args.stage.now) c.args.overlay.now
    (g.R.Reading.holdings c.args.stage.now) in
    let keys = c.args.keys.now in
    other_row plan reading keys c.args.rows.now c.args.order.now c.requires.order c.place_among-place.result
    c.place_among-place.ensures c.in-Some.number (sym c.number_at.ensures ∙ c.in-Some.is)
    (ap (has_keys plan reading keys) (sym c.row_at-row.ensures) ∙ (sym c.has_keys.ensures ∙ c.if-has_keys.false))

pub returns-in-None-clause-none : goal.returns-in-None-clause-none
returns-in-None-clause-none g c =
    let plan = c.args.plan.now in
    let reading
    = procedure_reading plan (g.R.View.seen c.args.stage.now) c.args.overlay.now
    (g.R.Reading.holdings c.args.stage.now) in
    no_row plan reading c.args.keys.now c.args.rows.now c.args.order.now c.requires.order c.place_among-place.result
    c.place_among-place.ensures (sym c.number_at.ensures ∙ c.in-None.is)
