-- The grain at hand is counted by the cells, and all of the variable's are all of the domain's.
use Rattle.std.proofs.Common.{arith}
use Rattle.vc_net_bounds.proofs.KeepingLemmas.{counted_all, counted_next}
use Rattle.vc_net_bounds.proofs.keeping.count_by_cells.Goals as goal

pub loop-grain-preserved : goal.loop-grain-preserved
loop-grain-preserved c =
    counted_next c.args.plan.now c.args.var c.loop-grain.grain c.count_cells-count.result c.args.column c.piece.result
    c.args.cells.now
    c.loop-grain.counts c.push.new.self c.requires.grains c.piece.ensures c.requires.cells c.count_cells-count.ensures
    c.loop-grain.invariant c.in_ok-push.ensures.ok

pub returns : goal.returns
returns c =
    counted_all c.args.plan.now c.args.var c.loop-grain.grain c.args.column c.loop-grain.counts c.requires.grains
    (omega (arith, c.loop-grain-test.false, c.loop-grain.auto.grain-end, c.grain_count-grain-end.ensures))
    c.loop-grain.invariant
