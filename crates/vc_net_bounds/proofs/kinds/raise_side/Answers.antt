use Rattle.std.proofs.Common.{◌∙◌, ap, sym}
use Rattle.vc_net_places.specs.Cells.{all_places}
use Rattle.vc_net_bounds.specs.Raising.{at_side, raised_by}
use Rattle.vc_net_bounds.proofs.KindLemmas.{no_side_raised}
use Rattle.vc_net_bounds.proofs.kinds.raise_side.Goals as goal

pub returns-in-None-clause-is : goal.returns-in-None-clause-is
returns-in-None-clause-is c =
    let plan = c.args.plan.now in
    no_side_raised plan c.args.bound c.args.bounds.now
    ∙ ap (λ side. raised_by (at_side plan side c.args.bound) (all_places plan) c.args.bounds.now) (sym c.in-None.is)
