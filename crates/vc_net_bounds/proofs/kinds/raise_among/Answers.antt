use Rattle.std.proofs.Common.{◌∙◌, ap, sym}
use Rattle.vc_net_places.specs.Cells.{all_places}
use Rattle.vc_net_bounds.specs.Raising.{at_grains, raised_by, where_failing}
use Rattle.vc_net_bounds.proofs.KindLemmas.{among_excluded}
use Rattle.vc_net_bounds.proofs.kinds.raise_among.Goals as goal

pub returns-then-is_restrictable-clause-is : goal.returns-then-is_restrictable-clause-is
returns-then-is_restrictable-clause-is c =
    let plan = c.args.plan.now in
    c.raise_failing.ensures.is
    ∙ (ap (λ t. raised_by (at_grains c.args.var (where_failing plan c.args.var t c.args.common)) (all_places plan)
    c.args.bounds.now)
    c.allowed_of-allowed.ensures
    ∙ among_excluded plan c.args.rule.now c.args.var c.args.common c.args.restriction.now c.args.bounds.now
    (sym c.if-is_inferred.ensures) (sym c.if-is_restrictable.ensures) c.requires.common)
