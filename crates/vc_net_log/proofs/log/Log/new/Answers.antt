-- No premise is kept at first, and no grain is out.
use Rattle.std.proofs.Common.{length, refl}
use Rattle.vc_net_log.proofs.NewLaws.{begins_long, nothing_kept}
use Rattle.vc_net_log.proofs.log.Log.new.Goals as goal

pub begin-requires : goal.begin-requires
begin-requires c = begins_long c.args.bounds.now c.in_ok-cells.cells c.in_ok-cells.ensures

pub invariant_of-result : goal.invariant_of-result
invariant_of-result c =
    nothing_kept c.args.plan.now c.args.bounds.now c.requires.few c.requires.places c.requires.cells
    c.in_ok-standing.standing c.in_ok-cells.cells c.in_ok-counts.counts c.in_ok-premises.premises c.in_ok-outs.outs
    (length c.args.bounds.now) c.begin.result c.len.result c.in_ok-standing.ensures c.in_ok-cells.ensures refl
    c.len.ensures
    c.begin.ensures c.in_ok-counts.ensures c.in_ok-premises.ensures c.in_ok-outs.ensures
