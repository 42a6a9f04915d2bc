use Rattle.vc_net_log.proofs.LogLaws.{bounds_are_counted, rooms_are_bounds}
use Rattle.vc_net_log.proofs.laws.rooms_are_bounds.Goals as goal

pub returns-clause-rooms : goal.returns-clause-rooms
returns-clause-rooms c = rooms_are_bounds

pub returns-clause-counted : goal.returns-clause-counted
returns-clause-counted c = bounds_are_counted
