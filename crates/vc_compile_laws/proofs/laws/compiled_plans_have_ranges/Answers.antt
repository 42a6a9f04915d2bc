use Rattle.vc_compile_laws.proofs.TypedLaws.{has_ranges}
use Rattle.vc_compile_laws.proofs.laws.compiled_plans_have_ranges.Goals as goal

pub returns : goal.returns
returns c = has_ranges
