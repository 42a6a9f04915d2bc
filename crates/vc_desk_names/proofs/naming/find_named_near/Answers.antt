-- A valid plan is shown.
use Rattle.vc_show.proofs.FittingLaws.{valid_plans_show}
use Rattle.vc_desk_names.proofs.naming.find_named_near.Goals as goal

pub named_if-requires : goal.named_if-requires
named_if-requires c = valid_plans_show c.args.plan.now c.requires
