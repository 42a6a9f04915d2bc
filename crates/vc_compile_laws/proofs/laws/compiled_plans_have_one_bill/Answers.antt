use Rattle.vc_compile_laws.proofs.ValidLaws.{has_one_bill}
use Rattle.vc_compile_laws.proofs.laws.compiled_plans_have_one_bill.Goals as goal

pub returns : goal.returns
returns c = has_one_bill
