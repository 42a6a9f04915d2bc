use Rattle.std.proofs.Common.{◌≡◌, map}
use Rattle.vc_plan.specs.Domains.{numbers_below}
use Rattle.vc_net_bounds.specs.Keeping.{rows_by_grain}
use Rattle.vc_net_bounds.proofs.keeping.Kept.count_anew.Given as goal

abbrev pub invariant-loop-grain : goal.invariant-loop-grain
invariant-loop-grain l = l.counts ≡ map (rows_by_grain l.plan l.table l.columns l.var) (numbers_below l.grain)
