use Rattle.vc_net_laws.proofs.NetLaws.Forced.{base_is_forced, given_is_forced, logs_are_forced}
use Rattle.vc_net_laws.proofs.laws.given_is_forced.Goals as goal

pub returns-clause-base : goal.returns-clause-base
returns-clause-base c = base_is_forced

pub returns-clause-logs : goal.returns-clause-logs
returns-clause-logs c = logs_are_forced

pub returns-clause-given : goal.returns-clause-given
returns-clause-given c = given_is_forced
