use Rattle.vc_session_tests.proofs.SmallPlans.{texts_can_run}
use Rattle.vc_session_tests.proofs.proc.plan_of_one.Goals as goal

pub returns-clause-can : goal.returns-clause-can
returns-clause-can c =
    texts_can_run _ c.in_ok-texts.ensures c.in_ok-domains.ensures c.in_ok-slots.ensures c.in_ok-vars.ensures
    c.in_ok-conditions.ensures
    c.in_ok-terms.ensures c.in_ok-procedures.ensures
