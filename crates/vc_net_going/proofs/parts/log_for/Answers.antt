-- There are cells for each place, as many as it needs.
use Rattle.std.proofs.Common.{◌∙◌, ap, arith, length}
use Rattle.vc_net_log.proofs.LogLaws.{bounds_are_counted}
use Rattle.vc_net_places.specs.Cells.{total}
use Rattle.vc_net_going.proofs.PlanFacts.{cells_fit}
use Rattle.vc_net_going.proofs.parts.log_for.Goals as goal

pub new-requires-clause-places : goal.new-requires-clause-places
new-requires-clause-places c =
    ap (λ ns. length ns) (c.as_slice.ensures ∙ c.requires.places) ∙ bounds_are_counted c.args.plan.now

pub new-requires-clause-cells : goal.new-requires-clause-cells
new-requires-clause-cells c =
    let same = ap total (c.as_slice.ensures ∙ c.requires.places) in
    let fit = cells_fit c.args.plan.now c.requires.valid in
    omega (arith, same, fit)
