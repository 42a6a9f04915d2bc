use Rattle.vc_bill.proofs.FittingLaws.{valid_plans_bill}
use Rattle.vc_bill.proofs.laws.valid_plans_bill.Goals as goal

pub returns : goal.returns
returns c = valid_plans_bill
