use Rattle.vc_compile_laws.proofs.WordLaws.{has_counts}
use Rattle.vc_compile_laws.proofs.laws.compiled_plans_have_counts.Goals as goal

pub returns : goal.returns
returns c = has_counts
