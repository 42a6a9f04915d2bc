use Rattle.std.proofs.Common.{ap, refl, sym, ◌∙◌}
use Rattle.vc_plan.specs.Domains.{count_of, numbers_below}
use Rattle.vc_rule_premises.specs.Saying.{take_conclusions}
use Rattle.vc_rule_table_grains.specs.Calls.{loses, misses}
use Rattle.vc_rule_table_grains.proofs.ConcludingSteps.{none_newly}
use Rattle.vc_rule_table_grains.proofs.grains.narrow_domain.Goals as goal

pub returns-else-some_newly_missing : goal.returns-else-some_newly_missing
returns-else-some_newly_missing g c =
    let call = c.args.call.now in
    let seen = g.V.View.seen call.view.now in
    sym (ap (take_conclusions c.args.out.now)
    (none_newly seen call.var (seen.out call.var) (misses g.V.View.seen call) (loses g.V.View.seen call) (λ n. refl)
    (numbers_below (count_of call.plan.now call.var))
    (sym c.some_newly_missing.ensures ∙ c.if-some_newly_missing.false)))
