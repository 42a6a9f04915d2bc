-- The first of the variables to come that is exhausted is the first of all.
use Rattle.std.proofs.Common.{◌≡◌, ◌-◌, ◌≤◌, [], ◌∷◌, ◌++◌}
use Rattle.std.specs.List.{find, range_with_len}
use Rattle.vc_plan.specs.Clear.{is_exhausted}
use Rattle.vc_plan.specs.Seen.{seen_of}
use Rattle.vc_plan_reasons.specs.Checking.{set_with}
use Rattle.vc_plan_blame.specs.Blame.{exhausted_by}
use Rattle.vc_net_standing.specs.Standing.{atoms_of}
use Rattle.vc_net_blame.proofs.running_out.exhausted.Given as goal

abbrev pub invariant-loop-var : goal.invariant-loop-var
invariant-loop-var l =
    (find (is_exhausted l.plan (seen_of (set_with (atoms_of l.standing.facts ++ l.last ∷ []))))
    (range_with_len l.var (l.count - l.var))
    ≡ exhausted_by l.plan (atoms_of l.standing.facts ++ l.last ∷ []))
    × (l.var ≤ l.count)

abbrev pub decreases-loop-var : goal.decreases-loop-var
decreases-loop-var l = l.count - l.var
