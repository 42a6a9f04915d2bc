use Rattle.vc_compile_meant.proofs.MonotoneLaws.{has_nets}
use Rattle.vc_compile_meant.proofs.laws.typed_plans_have_nets.Goals as goal

pub returns : goal.returns
returns c = has_nets
