-- What those from here on say is what all say: those before don't decide it.
use Rattle.std.proofs.Common.{◌≡◌, length}
use Rattle.vc_check_table.specs.Columns.{keeps}
use Rattle.vc_check_table.proofs.rows.keeps.Given as goal

abbrev pub invariant-loop-rest : goal.invariant-loop-rest
invariant-loop-rest g l =
    keeps l.plan (g.V.View.seen l.view) l.var l.columns l.rest l.grain
    ≡ keeps l.plan (g.V.View.seen l.view) l.var l.columns l.rows l.grain

abbrev pub decreases-loop-rest : goal.decreases-loop-rest
decreases-loop-rest g l = length l.rest
