use Rattle.vc_rule_premises.proofs.CitedLaws.{all_is_cited, nothing_else_is_cited, each_is_cited_once, few_are_cited}
use Rattle.vc_rule_premises.proofs.laws.cited_once.Goals as goal

pub returns-clause-all : goal.returns-clause-all
returns-clause-all c = all_is_cited

pub returns-clause-alone : goal.returns-clause-alone
returns-clause-alone c = nothing_else_is_cited

pub returns-clause-once : goal.returns-clause-once
returns-clause-once c = each_is_cited_once

pub returns-clause-few : goal.returns-clause-few
returns-clause-few c = few_are_cited
