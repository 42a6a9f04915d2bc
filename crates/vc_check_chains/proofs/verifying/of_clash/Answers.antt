-- The verdict is that with the sources that are made.
use Rattle.std.proofs.Common.{rules, ◌≡◌, ◌∙◌, ap}
use Rattle.vc_check_chains.specs.Telling.{sources_to}
use Rattle.vc_check_chains.specs.Verifying.{bad_step, clash_verdict}
use Rattle.vc_check_chains.proofs.verifying.of_clash.Goals as goal

pub returns : goal.returns
returns c =
    let clash = c.args.clash.now in
    let made : c.in_ok-sources.sources ≡ sources_to c.args.plan.now clash.steps clash.culprit clash.premises
    = search rules in
    c.in_ok-verdict.ensures
    ∙ ap (λ s. clash_verdict c.args.plan.now s clash c.args.whole (bad_step c.args.plan.now s clash.steps)) made
