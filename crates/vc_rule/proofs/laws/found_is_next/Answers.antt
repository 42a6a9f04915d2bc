use Rattle.vc_rule.proofs.FollowingLaws.{found_is_next, next_is_accepted, next_may_wait}
use Rattle.vc_rule.proofs.laws.found_is_next.Goals as goal

pub returns-clause-next : goal.returns-clause-next
returns-clause-next c = found_is_next

pub returns-clause-later : goal.returns-clause-later
returns-clause-later c = next_may_wait

pub returns-clause-accepted : goal.returns-clause-accepted
returns-clause-accepted c = next_is_accepted
