-- A valid plan can be shown.
use Rattle.vc_show.proofs.FittingLaws.{valid_plans_show}
use Rattle.vc_desk_session.proofs.edits.retract.Goals as goal

pub named_for-requires : goal.named_for-requires
named_for-requires g c = valid_plans_show c.args.plan.now c.requires.valid
