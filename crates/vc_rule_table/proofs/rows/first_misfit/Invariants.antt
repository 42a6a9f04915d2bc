-- The first in which the row isn't possible of the columns from here on is that of all.
use Rattle.std.proofs.Common.{◌≡◌, length}
use Rattle.vc_rule_table.specs.Cells.{columns_but}
use Rattle.vc_rule_table.specs.Reasons.{first_misfit}
use Rattle.vc_rule_table.proofs.rows.first_misfit.Given as goal

abbrev pub invariant-loop-rest : goal.invariant-loop-rest
invariant-loop-rest g l =
    first_misfit l.plan (g.V.View.seen l.view) (columns_but l.but l.rest) l.row
    ≡ first_misfit l.plan (g.V.View.seen l.view) (columns_but l.but l.columns) l.row

abbrev pub decreases-loop-rest : goal.decreases-loop-rest
decreases-loop-rest g l = length l.rest
