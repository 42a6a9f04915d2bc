-- The variable of a trigger is read.
use Rattle.std.proofs.Common.{sym, ◌∙◌}
use Rattle.vc_net_readers.proofs.TriggerLemmas.{trigger_read}
use Rattle.vc_net_readers.proofs.touching.touches_by.Goals as goal

pub returns-then-is_trigger_of : goal.returns-then-is_trigger_of
returns-then-is_trigger_of c =
    sym (trigger_read c.args.plan.now c.args.rule c.args.var c.args.trigger c.requires
    (sym c.is_trigger_of.ensures ∙ c.if-is_trigger_of.true))
