-- Those to come pass if all do: those before pass.
use Rattle.std.proofs.Common.{◌≡◌, length}
use Rattle.std.specs.List.{list_all}
use Rattle.vc_plan.specs.Clear.{is_named}
use Rattle.vc_check_board.proofs.clear.all_named.Given as goal

abbrev pub invariant-loop-rest : goal.invariant-loop-rest
invariant-loop-rest l = list_all (is_named l.plan) l.rest ≡ list_all (is_named l.plan) l.set

abbrev pub decreases-loop-rest : goal.decreases-loop-rest
decreases-loop-rest l = length l.rest
