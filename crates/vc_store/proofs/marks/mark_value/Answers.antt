-- What is found is there, and marking it leaves the rest for the plan.
use Rattle.std.proofs.Common.{subst, sym}
use Rattle.vc_store.specs.Marking.{AreFor, place_said}
use Rattle.vc_store.proofs.MarkLaws.{marked_for}
use Rattle.vc_store.proofs.NamingLaws.{found_there}
use Rattle.vc_store.proofs.marks.mark_value.Goals as goal

pub mark-requires-clause-there : goal.mark-requires-clause-there
mark-requires-clause-there c =
    found_there c.args.plan.now c.args.json.now (place_said c.in-Some.place) (sym c.in-Some.ensures.is)

pub returns-in-Some-clause-of : goal.returns-in-Some-clause-of
returns-in-Some-clause-of c =
    subst (AreFor c.args.plan.now) (sym c.mark.ensures.marks)
    (marked_for c.args.plan.now c.args.marks.now (place_said c.in-Some.place) c.requires.of)
