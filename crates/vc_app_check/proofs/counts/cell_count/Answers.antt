-- The cells of all places and of a clash are those of the plan.
use Rattle.std.proofs.Common.{◌≡◌, ◌+◌, ◌≤◌, ap, subst, ◌∙◌, arith}
use Rattle.vc_plan.specs.declared.plans.Plan.{Plan}
use Rattle.vc_plan.specs.Bounds.{cell_bound}
use Rattle.vc_compile_plan.specs.Refusals.{most_cells}
use Rattle.vc_net_places.specs.Cells.{bounds_of, total}
use Rattle.vc_net_places.proofs.PlaceLaws.Cells.{cells_suffice}
use Rattle.vc_net_bounds.specs.Counting.{IsCounted}
use Rattle.vc_net_bounds.specs.declared.bounds.Bounds.{Bounds}
use Rattle.vc_net_bounds.specs.declared.bounds.Counted.TheVariants.{Within}
use Rattle.vc_app_check.proofs.counts.cell_count.Goals as goal

all_cells : (plan : Plan) (bounds : Bounds) → IsCounted plan (Within bounds)
    → total bounds.places + bounds.clash ≡ cell_bound plan
all_cells plan bounds counted =
    ap (λ places. total places + bounds.clash) counted.0 ∙ ap (λ clash. total (bounds_of plan) + clash) counted.1
    ∙ cells_suffice plan

pub cells-requires : goal.cells-requires
cells-requires c =
    let counted : IsCounted c.args.plan.now (Within c.in-Within.bounds)
    = subst (IsCounted c.args.plan.now) c.in-Within.is c.in_ok-bounds.ensures in
    let few : cell_bound c.args.plan.now ≤ most_cells = counted.2 in
    omega (arith, all_cells c.args.plan.now c.in-Within.bounds counted)

pub returns-in-Within : goal.returns-in-Within
returns-in-Within c =
    c.cells.ensures
    ∙ all_cells c.args.plan.now c.in-Within.bounds
    (subst (IsCounted c.args.plan.now) c.in-Within.is c.in_ok-bounds.ensures)
