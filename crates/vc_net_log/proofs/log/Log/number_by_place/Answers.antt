-- What is kept of the facts is what stands.
use Rattle.std.proofs.Common.{◌∙◌, ap}
use Rattle.vc_net_standing.specs.Standing.{Stood, places_of}
use Rattle.vc_net_log.specs.Keeping.{number_at}
use Rattle.vc_net_log.proofs.KeptLaws.{stands_by}
use Rattle.vc_net_log.proofs.log.Log.number_by_place.Goals as goal

pub returns : goal.returns
returns c =
    let s = c.self.inside in
    c.number_at.ensures
    ∙ ap (λ (stood : Stood). number_at (places_of stood.index stood.facts) c.args.place)
    (stands_by s.standing s.cells s.counts s.premises c.args.self.now c.self.view_is)
