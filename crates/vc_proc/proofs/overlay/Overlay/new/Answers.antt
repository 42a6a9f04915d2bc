use Rattle.vc_proc.proofs.OverlayLemmas.{begun}
use Rattle.vc_proc.proofs.overlay.Overlay.new.Goals as goal

pub returns : goal.returns
returns c = begun c.args.plan.now c.in_ok-nothing_for.field-0 c.len.result c.in_ok-nothing_for.ensures c.len.ensures
