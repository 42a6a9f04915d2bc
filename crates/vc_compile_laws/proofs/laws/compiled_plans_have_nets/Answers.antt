use Rattle.vc_compile_laws.proofs.ValidLaws.{has_nets}
use Rattle.vc_compile_laws.proofs.laws.compiled_plans_have_nets.Goals as goal

pub returns : goal.returns
returns c = has_nets
