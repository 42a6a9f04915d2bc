-- What those from here on say is what all say: those before don't decide it.
use Rattle.std.proofs.Common.{◌≡◌, length}
use Rattle.std.specs.List.{list_all}
use Rattle.vc_check_table.specs.Columns.{says_narrowed}
use Rattle.vc_check_table.proofs.table.all_say.Given as goal

abbrev pub invariant-loop-rest : goal.invariant-loop-rest
invariant-loop-rest g l =
    list_all (says_narrowed l.plan (g.V.View.seen l.view) l.table l.columns) l.rest
    ≡ list_all (says_narrowed l.plan (g.V.View.seen l.view) l.table l.columns) l.vars

abbrev pub decreases-loop-rest : goal.decreases-loop-rest
decreases-loop-rest g l = length l.rest
