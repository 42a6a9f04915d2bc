use Rattle.std.proofs.Common.{◌∙◌, ap, arith}
use Rattle.vc_net_places.specs.Cells.{total}
use Rattle.vc_net_bounds.specs.Capping.{capped}
use Rattle.vc_net_bounds.proofs.CountingLemmas.{within}
use Rattle.vc_net_bounds.proofs.bounds.bounds_of.Goals as goal

pub returns-else-all-gt-MOST_CELLS : goal.returns-else-all-gt-MOST_CELLS
returns-else-all-gt-MOST_CELLS c =
    within c.args.plan.now c.in_ok-bounds.bounds c.capped_total.result c.capped_sum-all.result
    c.in_ok-bounds.ensures.places
    c.in_ok-bounds.ensures.clash (c.capped_total.ensures ∙ ap (λ ns. capped (total ns)) c.as_slice.ensures)
    c.capped_sum-all.ensures
    (omega (arith, c.if-all-gt-MOST_CELLS.false))
