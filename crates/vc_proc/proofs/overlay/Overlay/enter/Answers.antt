use Rattle.vc_proc.proofs.OverlayLemmas.{entered}
use Rattle.vc_proc.proofs.overlay.Overlay.enter.Goals as goal

pub returns-then-var-len : goal.returns-then-var-len
returns-then-var-len c =
    entered c.self.inside.entries c.set.new.self c.args.self.now c.args.var c.args.written c.self.view_is c.set.ensures
