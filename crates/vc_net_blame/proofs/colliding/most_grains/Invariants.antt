-- The greatest so far, with the variables to come, is the greatest of all.
use Rattle.std.proofs.Common.{◌≡◌, ◌-◌, length}
use Rattle.std.specs.Prelude.{max}
use Rattle.std.specs.List.{range_with_len}
use Rattle.vc_plan.specs.Bounds.{greatest}
use Rattle.vc_plan.specs.Domains.{count_of, numbers_below}
use Rattle.vc_net_blame.proofs.colliding.most_grains.Given as goal

abbrev pub invariant-loop-var : goal.invariant-loop-var
invariant-loop-var l =
    max l.greatest (greatest (count_of l.plan) (range_with_len l.var (l.var-end - l.var)))
    ≡ greatest (count_of l.plan) (numbers_below (length l.plan.vars))
