use Rattle.vc_net.proofs.ExplainLaws.{chains_explain, clashes_explain, logs_explain}
use Rattle.vc_net.proofs.laws.nets_explain.Goals as goal

pub returns-clause-log : goal.returns-clause-log
returns-clause-log c = logs_explain

pub returns-clause-chains : goal.returns-clause-chains
returns-clause-chains c = chains_explain

pub returns-clause-clash : goal.returns-clause-clash
returns-clause-clash c = clashes_explain
