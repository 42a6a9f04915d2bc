use Rattle.std.proofs.Common.{pos}
use Rattle.vc_value.specs.Grains.{interval}
use Rattle.vc_value_cuts.proofs.CutLemmas.{next_ascends}
use Rattle.vc_value_cuts.proofs.grains.listed.Goals as goal

pub add-requires-clause-ordered : goal.add-requires-clause-ordered
add-requires-clause-ordered c =
    (next_ascends c.loop-grain.list c.args.grains.now c.loop-grain.grain-index (interval (pos 0) (pos 0)) c.requires
    c.loop-grain.invariant c.loop-grain-test.true).0

pub add-requires-clause-above : goal.add-requires-clause-above
add-requires-clause-above c =
    (next_ascends c.loop-grain.list c.args.grains.now c.loop-grain.grain-index (interval (pos 0) (pos 0)) c.requires
    c.loop-grain.invariant c.loop-grain-test.true).1
