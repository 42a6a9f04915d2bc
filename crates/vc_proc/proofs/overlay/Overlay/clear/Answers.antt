use Rattle.vc_proc.proofs.OverlayLemmas.{cleared}
use Rattle.vc_proc.proofs.overlay.Overlay.clear.Goals as goal

pub returns : goal.returns
returns c = cleared c.self.inside.entries c.clear_all.new.entries c.args.self.now c.self.view_is c.clear_all.ensures
