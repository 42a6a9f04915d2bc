-- What has a meaning is there, and giving it leaves the rest for the plan.
use Rattle.std.proofs.Common.{subst, sym}
use Rattle.vc_store.specs.Marking.{AreFor, given_said}
use Rattle.vc_store.proofs.GivingLaws.{given_for, meaning_there}
use Rattle.vc_store.proofs.giving.give_value.Goals as goal

pub give-requires : goal.give-requires
give-requires c =
    meaning_there c.args.plan.now c.args.users.now c.args.json.now (given_said c.in-Some.given) c.requires.of
    (sym c.in-Some.ensures)

pub returns-in-Some-clause-of : goal.returns-in-Some-clause-of
returns-in-Some-clause-of c =
    subst (AreFor c.args.plan.now) (sym c.give.ensures)
    (given_for c.args.plan.now c.args.users.now (given_said c.in-Some.given) c.requires.of)
