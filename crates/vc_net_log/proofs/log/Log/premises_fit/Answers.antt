-- What is kept of a log has its premises in cells.
use Rattle.vc_net_log.proofs.FitLaws.{premises_fit}
use Rattle.vc_net_log.proofs.log.Log.premises_fit.Goals as goal

pub returns : goal.returns
returns c =
    let s = c.self.inside in
    premises_fit s.standing s.cells s.counts s.premises c.self.invariant.premises c.args.self.now c.self.view_is
