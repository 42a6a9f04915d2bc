-- The clash that is told of is what is left of the one that is kept.
use Rattle.vc_net.proofs.NumberLaws.{clash_left}
use Rattle.vc_net.proofs.clashes.clash.Goals as goal

pub returns-in_ok-steps-in-Some : goal.returns-in_ok-steps-in-Some
returns-in_ok-steps-in-Some c =
    clash_left c.args.log.now.steps c.args.breaker.now c.in-Some.culprit c.in_ok-steps-in-Some.field-0 c.in-Some.is
    c.in_ok-steps-in-Some.ensures
