use Rattle.vc_plan_blame.proofs.BlameLaws.Unclear.{exhausted_is_blamed, out_is_blamed, values_are_blamed}
use Rattle.vc_plan_blame.proofs.laws.collisions_are_blamed.Goals as goal

pub returns-clause-exhausted : goal.returns-clause-exhausted
returns-clause-exhausted c = exhausted_is_blamed

pub returns-clause-out : goal.returns-clause-out
returns-clause-out c = out_is_blamed

pub returns-clause-values : goal.returns-clause-values
returns-clause-values c = values_are_blamed
