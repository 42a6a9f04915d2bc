-- Whether the grains to come are all out is whether all are: those before are.
use Rattle.std.proofs.Common.{◌≡◌, ◌-◌, ◌≤◌}
use Rattle.std.specs.List.{list_all, range_with_len}
use Rattle.vc_plan.specs.Clear.{are_all_out}
use Rattle.vc_check_board.proofs.clear.are_all_out.Given as goal

abbrev pub invariant-loop-grain : goal.invariant-loop-grain
invariant-loop-grain g l =
    let seen = g.V.View.seen l.view in
    (list_all (seen.out l.var) (range_with_len l.grain (l.count - l.grain)) ≡ are_all_out l.plan seen l.var)
    × (l.grain ≤ l.count)

abbrev pub decreases-loop-grain : goal.decreases-loop-grain
decreases-loop-grain g l = l.count - l.grain
