-- The premises are told by their numbers.
use Rattle.std.proofs.Common.{◌≡◌, ◌∙◌, ℕ, List, ap, map, subst}
use Rattle.std.specs.Prelude.{IfOk}
use Rattle.vc_plan_blame.specs.Blame.{number_of}
use Rattle.vc_net_chains.specs.Telling.{trimmed_for}
use Rattle.vc_net_going.specs.Breaking.{stand_with, steps_with}
use Rattle.vc_net.proofs.clashes.contradicting.Goals as goal

pub returns : goal.returns
returns c =
    let kept = c.args.breaker.now in
    let steps = c.args.log.now.steps in
    subst (λ (premises : List ℕ). IfOk c.leading_to-left.result (λ left. left
    ≡ trimmed_for premises (steps_with steps kept.fact kept.reasons.items)))
    (c.as_slice-2.ensures
    ∙ (c.in_ok-premises.ensures ∙ ap (map (number_of (stand_with steps kept.fact))) c.as_slice.ensures))
    c.leading_to-left.ensures
