-- What is cited so far, with what of the grains to come is out, is all that is to be cited.
use Rattle.std.proofs.Common.{◌&&◌, ◌-◌}
use Rattle.vc_plan.specs.Domains.{is_grain_with}
use Rattle.vc_rule_grains.proofs.SayLemmas.{cite_step}
use Rattle.vc_rule_grains.proofs.Walking.{Walks}
use Rattle.vc_rule_grains.proofs.confining.cite_outs_among.Given as goal

abbrev pub invariant-loop-grain : goal.invariant-loop-grain
invariant-loop-grain g l =
    Walks
    (cite_step (λ n. (g.V.View.seen l.view).out l.var n && is_grain_with l.plan l.var (g.T.Test.passes l.test) n) l.var)
    l.fn.out l.out l.grain l.count

abbrev pub decreases-loop-grain : goal.decreases-loop-grain
decreases-loop-grain g l = l.count - l.grain
