-- What is kept of the facts is what stands.
use Rattle.std.proofs.Common.{◌∙◌, ap}
use Rattle.vc_net_standing.specs.Standing.{Stood}
use Rattle.vc_net_log.proofs.KeptLaws.{stands_by}
use Rattle.vc_net_log.proofs.log.Log.facts.Goals as goal

pub returns : goal.returns
returns c =
    let s = c.self.inside in
    c.facts.ensures
    ∙ ap (λ (stood : Stood). stood.facts)
    (stands_by s.standing s.cells s.counts s.premises c.args.self.now c.self.view_is)
