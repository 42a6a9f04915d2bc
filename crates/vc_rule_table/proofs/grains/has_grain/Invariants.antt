-- What the columns from here on say is what all say.
use Rattle.std.proofs.Common.{◌≡◌, length}
use Rattle.vc_plan.specs.TableRows.{columns_of, has_grain}
use Rattle.vc_rule_table.proofs.grains.has_grain.Given as goal

abbrev pub invariant-loop-rest : goal.invariant-loop-rest
invariant-loop-rest l = has_grain l.plan l.var (columns_of l.var l.rest) l.grain l.row
    ≡ has_grain l.plan l.var (columns_of l.var l.columns) l.grain l.row

abbrev pub decreases-loop-rest : goal.decreases-loop-rest
decreases-loop-rest l = length l.rest
