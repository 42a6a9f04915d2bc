-- A variable that a rule gives a text is one that it touches.
use Rattle.std.proofs.Common.{sym, ◌∙◌}
use Rattle.vc_net_readers.proofs.TriggerLemmas.{told_read}
use Rattle.vc_net_readers.proofs.touching.touches_as_told.Goals as goal

pub returns-then-gives_text_to : goal.returns-then-gives_text_to
returns-then-gives_text_to c =
    sym (told_read c.args.plan.now c.args.rule c.args.var c.args.glance c.requires
    (sym c.gives_text_to.ensures ∙ c.if-gives_text_to.true))
