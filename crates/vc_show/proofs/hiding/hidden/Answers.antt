-- What hides a name is found among the preconditions of its slot.
use Rattle.std.proofs.Common.{◌&&◌, ◌∙◌, ap}
use Rattle.std.specs.Prelude.{is_none, ◌==◌}
use Rattle.std.specs.List.{filter, list_any}
use Rattle.vc_plan.specs.declared.plans.Guard.{Guard}
use Rattle.vc_plan.specs.Readings.{full_reading}
use Rattle.vc_plan.specs.Showing.{is_forbidden, same_named}
use Rattle.vc_show.specs.Places.{slot_of_guard}
use Rattle.vc_show.proofs.HidingLemmas.{own_found}
use Rattle.vc_show.proofs.hiding.hidden.Goals as goal

pub returns : goal.returns
returns g c =
    let plan = c.args.plan.now in
    let reading = full_reading plan (g.R.View.seen c.args.reading.now) (g.R.Reading.holdings c.args.reading.now) in
    c.some_hides.ensures
    ∙ (ap (list_any (λ (guard : Guard). same_named guard.at c.args.named && is_none guard.value
    && is_forbidden plan reading guard))
    (c.guards_of.ensures
    ∙ ap (λ n. filter (λ (guard : Guard). slot_of_guard plan guard == n) plan.guards) c.slot_of.ensures)
    ∙ own_found plan reading c.args.named)
