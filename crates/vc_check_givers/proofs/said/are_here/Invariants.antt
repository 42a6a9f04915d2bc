-- The slots from here on are here if all are: those before are.
use Rattle.std.proofs.Common.{◌≡◌, length}
use Rattle.std.specs.List.{list_all}
use Rattle.vc_check_givers.proofs.said.are_here.Given as goal

abbrev pub invariant-loop-rest : goal.invariant-loop-rest
invariant-loop-rest g l =
    list_all (g.V.View.seen l.view).here l.rest ≡ list_all (g.V.View.seen l.view).here l.slots

abbrev pub decreases-loop-rest : goal.decreases-loop-rest
decreases-loop-rest g l = length l.rest
