-- The log has cells as the plan's bound counts them.
use Rattle.std.proofs.Common.{◌≤◌, arith, subst, sym}
use Rattle.vc_plan.specs.Bounds.{cell_bound}
use Rattle.vc_net_log.specs.Logs.{premise_count}
use Rattle.vc_net.specs.Nets.{IsNetOf, Netted}
use Rattle.vc_net.proofs.NumberLaws.{cells_counted}
use Rattle.vc_net.proofs.net.Net.premises_fit.Goals as goal

pub returns : goal.returns
returns c =
    let plan = c.args.plan.now in
    let of = subst (IsNetOf plan) (sym c.self.view_is) c.requires in
    let counted = cells_counted plan c.self.inside.work.log of.going.of.index of.going.of.begins in
    let fit = c.premises_fit.ensures in
    subst (λ (net : Netted). premise_count net.work.log.steps ≤ cell_bound plan) c.self.view_is
    (omega (arith, counted, fit))
