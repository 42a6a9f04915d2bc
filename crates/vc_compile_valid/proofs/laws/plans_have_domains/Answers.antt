use Rattle.vc_compile_valid.proofs.DomainLaws.{has_domains}
use Rattle.vc_compile_valid.proofs.laws.plans_have_domains.Goals as goal

pub returns : goal.returns
returns c = has_domains
