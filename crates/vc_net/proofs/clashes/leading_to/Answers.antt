-- The steps are those of the log, and that of the fact.
use Rattle.std.proofs.Common.{◌≡◌, List, subst}
use Rattle.std.specs.Prelude.{IfOk}
use Rattle.vc_plan.specs.declared.atoms.Step.{Step}
use Rattle.vc_net_chains.specs.Telling.{trimmed_for}
use Rattle.vc_net.proofs.LeadLaws.{with_last, without_last}
use Rattle.vc_net.proofs.clashes.leading_to.Goals as goal

pub returns-in_ok-last-in-Some : goal.returns-in_ok-last-in-Some
returns-in_ok-last-in-Some c =
    let kept = c.args.breaker.now in
    subst (λ (all : List Step). IfOk c.trim_with-left.result (λ left. left ≡ trimmed_for c.args.premises.now all))
    (with_last c.args.log.now.steps kept.fact c.in-Some.fact kept.reasons.items c.as_slice.result.now
    c.in_ok-last-in-Some.last c.in-Some.is c.in_ok-last-in-Some.ensures c.as_slice.ensures) c.trim_with-left.ensures

pub returns-in-None : goal.returns-in-None
returns-in-None c =
    let kept = c.args.breaker.now in
    subst (λ (all : List Step). IfOk c.trim.result (λ left. left ≡ trimmed_for c.args.premises.now all))
    (without_last c.args.log.now.steps kept.fact kept.reasons.items c.count.result c.in-None.is c.count.ensures)
    c.trim.ensures
