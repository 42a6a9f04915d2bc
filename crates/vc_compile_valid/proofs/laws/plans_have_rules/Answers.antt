use Rattle.vc_compile_valid.proofs.RuleLaws.{has_rules}
use Rattle.vc_compile_valid.proofs.laws.plans_have_rules.Goals as goal

pub returns : goal.returns
returns c = has_rules
