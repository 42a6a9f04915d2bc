use Rattle.vc_net_waking.proofs.SpendLaws.{conclusions_are_of_things, reach_holds_what_is_written}
use Rattle.vc_net_waking.proofs.laws.reach_holds_what_is_written.Goals as goal

pub returns-clause-reach : goal.returns-clause-reach
returns-clause-reach c = reach_holds_what_is_written

pub returns-clause-conclusions : goal.returns-clause-conclusions
returns-clause-conclusions c = conclusions_are_of_things
