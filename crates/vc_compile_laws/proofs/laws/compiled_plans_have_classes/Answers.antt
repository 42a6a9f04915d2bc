use Rattle.vc_compile_laws.proofs.ClassLaws.{has_classes}
use Rattle.vc_compile_laws.proofs.laws.compiled_plans_have_classes.Goals as goal

pub returns : goal.returns
returns c = has_classes
