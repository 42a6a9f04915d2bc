-- Rows stand in their order, so the search by halves finds the place.
use Rattle.std.proofs.Common.{rules}
use Rattle.std.specs.Prelude.{slice_get}
use Rattle.std.specs.Ordering.{is_lt}
use Rattle.std.proofs.lemmas.List.Sorted.{IsPartitionPoint-from_clause}
use Rattle.vc_plan.specs.Parts.{procedure_reading}
use Rattle.vc_proc_look_ups.specs.Orders.{row_in}
use Rattle.vc_proc.specs.LookingUp.{compared_with}
use Rattle.vc_proc.proofs.PlaceLemmas.{place_parts}
use Rattle.vc_proc.proofs.looking_up.place_among.Goals as goal

pub returns : goal.returns
returns g c =
    let reading
    = procedure_reading c.args.plan.now (g.R.View.seen c.args.stage.now) c.args.overlay.now
    (g.R.Reading.holdings c.args.stage.now) in
    let keys = c.args.keys.now in
    let rows = c.args.rows.now in
    IsPartitionPoint-from_clause (λ n. is_lt (compared_with c.args.plan.now reading keys (row_in (slice_get rows n))))
    c.args.order.now c.partition_point.result c.partition_point.ensures.partitioned
    (place_parts c.args.plan.now reading keys rows c.args.order.now c.requires.order)
    (λ a r f called. search rules)
