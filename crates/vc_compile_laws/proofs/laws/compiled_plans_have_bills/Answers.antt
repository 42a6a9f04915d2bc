use Rattle.vc_compile_laws.proofs.BillLaws.{has_bills}
use Rattle.vc_compile_laws.proofs.laws.compiled_plans_have_bills.Goals as goal

pub returns : goal.returns
returns c = has_bills
