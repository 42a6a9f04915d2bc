-- The grain at hand is put, and those after it are to come.
use Rattle.std.proofs.Common.{map, arith}
use Rattle.vc_plan.specs.declared.conditions.Piece.TheVariants.{Stretch}
use Rattle.vc_show_rows.proofs.JoinLemmas.{stretch_put}
use Rattle.vc_show_rows.proofs.grains.stretches.Goals as goal

pub loop-grain-preserved : goal.loop-grain-preserved
loop-grain-preserved c = (
  stretch_put c.args.grains.now c.loop-grain.grain c.grain.result c.loop-grain.out c.push.new.self
      (map Stretch c.args.grains.now)
      c.grain.ensures c.in_ok-push.ensures.ok c.loop-grain.invariant.0,
  omega (arith, c.loop-grain-test.true),
)
