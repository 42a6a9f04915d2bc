use Rattle.vc_plan_reasons.proofs.ReasonLaws.Local.{rules_ignore_sources, says_locally}
use Rattle.vc_plan_reasons.proofs.laws.saying_is_local.Goals as goal

pub returns-clause-reads : goal.returns-clause-reads
returns-clause-reads c = says_locally

pub returns-clause-sources : goal.returns-clause-sources
returns-clause-sources c = rules_ignore_sources
