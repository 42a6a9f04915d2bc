use Rattle.vc_net.proofs.NumberLaws.{logs_are_few, logs_are_short}
use Rattle.vc_net.proofs.laws.logs_are_short.Goals as goal

pub returns-clause-few : goal.returns-clause-few
returns-clause-few c = logs_are_few

pub returns-clause-short : goal.returns-clause-short
returns-clause-short c = logs_are_short
