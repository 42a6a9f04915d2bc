-- No flag is set, and no number waits.
use Rattle.vc_net_agenda.proofs.PendingLaws.{marked_none}
use Rattle.vc_net_agenda.proofs.pending.Pending.new.Goals as goal

pub invariant_of-result : goal.invariant_of-result
invariant_of-result c =
    marked_none c.in_ok-no_flags.field-0 c.in_ok-no_places.field-0 c.args.limit c.in_ok-no_flags.ensures
    c.in_ok-no_places.ensures
