-- What is counted so far, with the grains that are to come, is all that is to be counted.
use Rattle.std.proofs.Common.{◌&&◌, ◌-◌}
use Rattle.std.specs.Prelude.{None}
use Rattle.vc_plan.specs.Domains.{is_grain_with}
use Rattle.vc_plan.specs.Seen.{is_left_by}
use Rattle.vc_rule_grains.specs.declared.remaining.Remaining.TheVariants.{Nothing}
use Rattle.vc_rule_grains.proofs.SayLemmas.{count_step}
use Rattle.vc_rule_grains.proofs.Walking.{Walks}
use Rattle.vc_rule_grains.proofs.remaining.remaining_among.Given as goal

abbrev pub invariant-loop-grain : goal.invariant-loop-grain
invariant-loop-grain g l =
    Walks
    (count_step (λ n. is_left_by l.plan (g.V.View.seen l.view) l.var n None
    && is_grain_with l.plan l.var (g.T.Test.passes l.test) n))
    Nothing l.remaining l.grain l.count

abbrev pub decreases-loop-grain : goal.decreases-loop-grain
decreases-loop-grain g l = l.count - l.grain
