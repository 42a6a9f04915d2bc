use Rattle.vc_compile_laws.proofs.ValidLaws.{has_domains}
use Rattle.vc_compile_laws.proofs.laws.compiled_plans_have_domains.Goals as goal

pub returns : goal.returns
returns c = has_domains
