use Rattle.vc_compile_valid.proofs.OneBillLaws.{has_one_bill}
use Rattle.vc_compile_valid.proofs.laws.plans_have_one_bill.Goals as goal

pub returns : goal.returns
returns c = has_one_bill
