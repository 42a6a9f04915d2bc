use Rattle.vc_compile_cutting.proofs.CutLaws.{is_cut_plan}
use Rattle.vc_compile_cutting.proofs.laws.plans_are_cut.Goals as goal

pub returns : goal.returns
returns c = is_cut_plan
