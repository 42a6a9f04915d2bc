use Rattle.vc_compile_sizes.proofs.StatementLaws.{has_look_ups}
use Rattle.vc_compile_sizes.proofs.laws.typed_plans_have_look_ups.Goals as goal

pub returns : goal.returns
returns c = has_look_ups
