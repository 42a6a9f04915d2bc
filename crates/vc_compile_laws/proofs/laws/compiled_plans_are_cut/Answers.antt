use Rattle.vc_compile_laws.proofs.TypedLaws.{is_cut}
use Rattle.vc_compile_laws.proofs.laws.compiled_plans_are_cut.Goals as goal

pub returns : goal.returns
returns c = is_cut
