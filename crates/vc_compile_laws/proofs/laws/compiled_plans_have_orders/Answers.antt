use Rattle.vc_compile_laws.proofs.OrderLaws.{has_orders}
use Rattle.vc_compile_laws.proofs.laws.compiled_plans_have_orders.Goals as goal

pub returns : goal.returns
returns c = has_orders
