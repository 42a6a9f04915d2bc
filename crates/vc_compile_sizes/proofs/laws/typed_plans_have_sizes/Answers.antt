use Rattle.vc_compile_sizes.proofs.SizeLaws.{has_sizes}
use Rattle.vc_compile_sizes.proofs.laws.typed_plans_have_sizes.Goals as goal

pub returns : goal.returns
returns c = has_sizes
