use Rattle.vc_show_rows.proofs.FittingLaws.{valid_plans_have_rows}
use Rattle.vc_show_rows.proofs.laws.valid_plans_have_rows.Goals as goal

pub returns : goal.returns
returns c = valid_plans_have_rows
