use Rattle.vc_plan_reasons.proofs.ReasonLaws.Dropping.{dropped_is_reached}
use Rattle.vc_plan_reasons.proofs.ReasonLaws.Keeping.{kept_is_accepted, kept_is_left}
use Rattle.vc_plan_reasons.proofs.laws.kept_is_accepted.Goals as goal

pub returns-clause-accepted : goal.returns-clause-accepted
returns-clause-accepted c = kept_is_accepted

pub returns-clause-least : goal.returns-clause-least
returns-clause-least c = kept_is_left

pub returns-clause-reached : goal.returns-clause-reached
returns-clause-reached c = dropped_is_reached
