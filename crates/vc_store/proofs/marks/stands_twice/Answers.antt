-- Nothing stands where nothing is marked.
use Rattle.std.proofs.Common.{map, subst, sym, ap, ◌∙◌}
use Rattle.vc_store.specs.Marking.{AreFor, place_in, twice_among}
use Rattle.vc_store.proofs.MarkLaws.{none_for, twice_from_none}
use Rattle.vc_store.proofs.NamingLaws.{all_there, standing_values}
use Rattle.vc_store.proofs.marks.stands_twice.Goals as goal

pub loop-json-init : goal.loop-json-init
loop-json-init c =
    let plan = c.args.plan.now in
    let values = c.args.values.now in (
      subst (AreFor plan) (sym c.in_ok-marks.ensures) (none_for plan),
      ap (λ marks. twice_among marks (map (place_in plan) values)) c.in_ok-marks.ensures
          ∙ twice_from_none plan (map (place_in plan) values) (all_there plan values)
          ∙ standing_values plan values,
    )
