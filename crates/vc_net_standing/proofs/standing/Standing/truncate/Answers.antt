-- The first facts have their numbers still.
use Rattle.vc_net_standing.proofs.StandingLaws.{front_stays}
use Rattle.vc_net_standing.proofs.standing.Standing.truncate.Goals as goal

pub invariant_of-self : goal.invariant_of-self
invariant_of-self c =
    let s = c.self.inside in
    front_stays s.places s.numbers s.facts c.self.invariant c.args.count c.truncate.new.self c.truncate.ensures
