use Rattle.std.proofs.Common.{pos}
use Rattle.vc_value.specs.Grains.{interval}
use Rattle.vc_value.proofs.GrainLemmas.{ordered_at}
use Rattle.vc_value_cuts.proofs.cut.Cut.of.Goals as goal

pub put_cut-requires-clause-ordered : goal.put_cut-requires-clause-ordered
put_cut-requires-clause-ordered c =
    ordered_at c.args.grains.now c.loop-grain.grain-index
    (interval (pos 0) (pos 0)) c.requires.ascending c.loop-grain-test.true
