-- There is room for all premises, and whom they blame is told by their facts.
use Rattle.std.proofs.Common.{◌∙◌, ap}
use Rattle.vc_net_blame.specs.Finding.{colliding_with}
use Rattle.vc_net_blame.specs.Searching.{first_blamed}
use Rattle.vc_net_blame.proofs.CollidingLemmas.{all_within}
use Rattle.vc_net_blame.proofs.CulpritLaws.{blamed_told}
use Rattle.vc_net_blame.proofs.colliding.blame.Goals as goal

pub returns-clause-premises : goal.returns-clause-premises
returns-clause-premises c =
    all_within c.args.plan.now c.args.standing.now.facts c.args.fact.atom c.args.premises.now c.clear.new.self
    c.put_colliding.new.premises c.requires.room c.clear.ensures c.put_colliding.ensures

pub returns-clause-culprit : goal.returns-clause-culprit
returns-clause-culprit c =
    let plan = c.args.plan.now in
    let facts = c.args.standing.now.facts in
    c.first_blamed.ensures
    ∙ (ap (first_blamed plan facts c.args.fact) (c.as_slice.ensures
    ∙ ap (λ list. list.items) (all_within plan facts c.args.fact.atom c.args.premises.now c.clear.new.self
    c.put_colliding.new.premises c.requires.room c.clear.ensures c.put_colliding.ensures))
    ∙ blamed_told plan facts c.args.fact (colliding_with plan facts c.args.fact.atom))
