-- Whether the grains to come are all out is whether all are: those before are.
use Rattle.std.proofs.Common.{◌≡◌, ◌-◌, ◌≤◌, [], ◌∷◌, ◌++◌}
use Rattle.std.specs.List.{list_all, range_with_len}
use Rattle.vc_plan.specs.Clear.{are_all_out}
use Rattle.vc_plan.specs.Seen.{seen_of}
use Rattle.vc_plan_reasons.specs.Checking.{set_with}
use Rattle.vc_net_standing.specs.Standing.{atoms_of}
use Rattle.vc_net_blame.proofs.running_out.are_all_out.Given as goal

abbrev pub invariant-loop-grain : goal.invariant-loop-grain
invariant-loop-grain l =
    let seen = seen_of (set_with (atoms_of l.standing.facts ++ l.last ∷ [])) in
    (list_all (seen.out l.var) (range_with_len l.grain (l.count - l.grain)) ≡ are_all_out l.plan seen l.var)
    × (l.grain ≤ l.count)

abbrev pub decreases-loop-grain : goal.decreases-loop-grain
decreases-loop-grain l = l.count - l.grain
