-- What is told so far, with the variables to come, is all of it; each adds little.
use Rattle.std.proofs.Common.{◌≡◌, ◌+◌, ◌-◌, ◌*◌, ◌≤◌, length, map}
use Rattle.std.specs.List.{range_with_len}
use Rattle.vc_net_places.specs.Cells.{total}
use Rattle.vc_plan.specs.Domains.{numbers_below}
use Rattle.vc_app_gen.specs.Tallies.{number_behind}
use Rattle.vc_app_gen.proofs.tally.sum_of.Given as goal

abbrev pub invariant-loop-var : goal.invariant-loop-var
invariant-loop-var g l =
    (l.sum
    + total (map (λ v. number_behind l.plan ((g.V.View.seen l.seen).value v))
    (range_with_len l.var (l.var-end - l.var)))
    ≡ total (map (λ v. number_behind l.plan ((g.V.View.seen l.seen).value v)) (numbers_below (length l.plan.vars))))
    × ((l.sum ≤ l.var * 256) × (l.var ≤ l.var-end))
