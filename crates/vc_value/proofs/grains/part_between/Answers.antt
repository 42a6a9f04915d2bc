use Rattle.std.proofs.Common.{arith}
use Rattle.std.proofs.lemmas.Int.{ints, clamps}
use Rattle.vc_value.proofs.CutLemmas.{one_part}
use Rattle.vc_value.proofs.grains.part_between.Goals as goal

pub returns-then-from-to : goal.returns-then-from-to
returns-then-from-to c =
    one_part c.args.low c.args.high _ _ c.args.grain c.interval.result (omega (arith, ints, clamps))
    (omega (arith, ints, clamps)) c.if-from-to.true c.interval.ensures
