-- Those to come pass if all do: those before pass.
use Rattle.std.proofs.Common.{◌≡◌, length}
use Rattle.std.specs.List.{list_all}
use Rattle.vc_check_board.specs.Fitting.{fits}
use Rattle.vc_check_board.proofs.clear.all_fit.Given as goal

abbrev pub invariant-loop-rest : goal.invariant-loop-rest
invariant-loop-rest g l =
    list_all (fits l.plan (g.V.View.seen l.view)) l.rest ≡ list_all (fits l.plan (g.V.View.seen l.view)) l.set

abbrev pub decreases-loop-rest : goal.decreases-loop-rest
decreases-loop-rest g l = length l.rest
