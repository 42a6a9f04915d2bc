-- What those from here on say is what all say: those before don't decide it.
use Rattle.std.proofs.Common.{◌≡◌, length}
use Rattle.vc_plan.specs.TableRows.{is_possible_in}
use Rattle.vc_check_table.proofs.columns.is_possible_in.Given as goal

abbrev pub invariant-loop-rest : goal.invariant-loop-rest
invariant-loop-rest g l =
    is_possible_in l.plan (g.V.View.seen l.view) l.rest l.row
    ≡ is_possible_in l.plan (g.V.View.seen l.view) l.columns l.row

abbrev pub decreases-loop-rest : goal.decreases-loop-rest
decreases-loop-rest g l = length l.rest
