use Rattle.vc_plan_reasons.proofs.ReasonLaws.Local.{gives_locally}
use Rattle.vc_plan_reasons.proofs.ReasonLaws.Writing.{gives_what_it_writes}
use Rattle.vc_plan_reasons.proofs.laws.giving_is_local.Goals as goal

pub returns-clause-reads : goal.returns-clause-reads
returns-clause-reads c = gives_locally

pub returns-clause-writes : goal.returns-clause-writes
returns-clause-writes c = gives_what_it_writes
