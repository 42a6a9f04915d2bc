-- A valid plan is shown.
use Rattle.vc_show.proofs.FittingLaws.{valid_plans_show}
use Rattle.vc_app_gen.proofs.asking.first_variable.Goals as goal

pub find_named-requires : goal.find_named-requires
find_named-requires c = valid_plans_show c.args.plan.now c.requires
