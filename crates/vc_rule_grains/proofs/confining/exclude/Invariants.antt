-- What is concluded so far, with what of the grains to come is excluded, is all that is to be concluded.
use Rattle.std.proofs.Common.{not, ◌-◌}
use Rattle.vc_plan.specs.Domains.{is_grain_with}
use Rattle.vc_rule_grains.proofs.SayLemmas.{exclude_step}
use Rattle.vc_rule_grains.proofs.Walking.{Walks}
use Rattle.vc_rule_grains.proofs.confining.exclude.Given as goal

abbrev pub invariant-loop-grain : goal.invariant-loop-grain
invariant-loop-grain g l =
    Walks
    (exclude_step (g.V.View.seen l.view) (λ n. not (is_grain_with l.plan l.var (g.T.Test.passes l.test) n)) l.var)
    l.fn.out l.out l.grain l.count

abbrev pub decreases-loop-grain : goal.decreases-loop-grain
decreases-loop-grain g l = l.count - l.grain
