use Rattle.vc_net_sources.proofs.SilenceLaws.{silent_sources_cost_nothing, silent_sources_find_nothing}
use Rattle.vc_net_sources.proofs.laws.silent_sources_find_nothing.Goals as goal

pub returns-clause-found : goal.returns-clause-found
returns-clause-found c = silent_sources_find_nothing

pub returns-clause-cost : goal.returns-clause-cost
returns-clause-cost c = silent_sources_cost_nothing
