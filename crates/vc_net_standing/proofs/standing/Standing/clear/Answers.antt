-- Where nothing stands no number tells anything.
use Rattle.vc_net_standing.proofs.StandingLaws.{all_gone}
use Rattle.vc_net_standing.proofs.standing.Standing.clear.Goals as goal

pub invariant_of-self : goal.invariant_of-self
invariant_of-self c =
    let s = c.self.inside in
    all_gone s.places s.numbers s.facts c.self.invariant c.clear.new.self c.clear.ensures
