-- What is read of a text may be chosen.
use Rattle.vc_desk.proofs.saved.users_in.Goals as goal

pub returns-in-Ok-clause-of : goal.returns-in-Ok-clause-of
returns-in-Ok-clause-of c =
    c.read_may_be_chosen.ensures c.args.plan.now c.bytes.result.now c.in-Ok.users c.in-Ok.ensures
