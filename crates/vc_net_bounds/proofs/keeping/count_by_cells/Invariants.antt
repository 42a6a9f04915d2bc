use Rattle.std.proofs.Common.{◌≡◌, map}
use Rattle.vc_plan.specs.Domains.{numbers_below}
use Rattle.vc_net_bounds.specs.Keeping.{cells_by_grain}
use Rattle.vc_net_bounds.proofs.keeping.count_by_cells.Given as goal

abbrev pub invariant-loop-grain : goal.invariant-loop-grain
invariant-loop-grain l = l.counts ≡ map (cells_by_grain l.plan l.fn.column) (numbers_below l.grain)
