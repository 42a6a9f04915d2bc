use Rattle.std.proofs.Common.{sym, ◌∙◌}
use Rattle.vc_plan_values.specs.Values.{meant}
use Rattle.vc_proc.specs.Writing.{place_from}
use Rattle.vc_proc.proofs.WritingLemmas.{default_outside}
use Rattle.vc_proc.proofs.writing.enter_default.Goals as goal

pub returns-in-Outside : goal.returns-in-Outside
returns-in-Outside g c =
    default_outside c.args.plan.now (g.V.View.seen c.args.view.now) (place_from c.args.place) c.args.var
    (meant c.args.value) c.args.overlay.now
    (sym c.in-Outside.is ∙ c.mark_of.ensures)
