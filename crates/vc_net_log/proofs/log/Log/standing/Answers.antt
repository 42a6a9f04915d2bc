-- What is kept of the facts is what stands.
use Rattle.vc_net_log.proofs.KeptLaws.{stands_by}
use Rattle.vc_net_log.proofs.log.Log.standing.Goals as goal

pub returns : goal.returns
returns c =
    let s = c.self.inside in
    stands_by s.standing s.cells s.counts s.premises c.args.self.now c.self.view_is
