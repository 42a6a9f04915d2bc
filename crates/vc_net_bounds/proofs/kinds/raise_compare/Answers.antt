use Rattle.std.proofs.Common.{ℕ, List, Option, ◌∙◌, ap}
use Rattle.vc_plan.specs.Restrictions.{lone_inferred}
use Rattle.vc_net_places.specs.Cells.{all_places}
use Rattle.vc_net_bounds.specs.Raising.{at_side, raised_by}
use Rattle.vc_net_bounds.proofs.KindLemmas.{compare_raised}
use Rattle.vc_net_bounds.proofs.kinds.raise_compare.Goals as goal

pub returns-clause-is : goal.returns-clause-is
returns-clause-is c =
    let plan = c.args.plan.now in
    let side : Option ℕ → List ℕ → List ℕ = λ o ns. raised_by (at_side plan o c.args.common) (all_places plan) ns in
    c.raise_side-2.ensures.is
    ∙ (ap (λ o. side o c.raise_side.new.bounds) c.lone_inferred-2.ensures
    ∙ (ap (side (lone_inferred plan c.args.rule.now c.args.right))
    (c.raise_side.ensures.is ∙ ap (λ o. side o c.args.bounds.now) c.lone_inferred.ensures)
    ∙ compare_raised plan c.args.rule.now c.args.relation c.args.left c.args.right c.args.common c.args.bounds.now
    c.requires.common))
