use Rattle.std.proofs.Common.{◌≡◌, ◌++◌, drop}
use Rattle.vc_value.specs.Grains.{cut_at}
use Rattle.vc_value_cuts.proofs.cut.Cut.of.Given as goal

abbrev pub invariant-loop-grain : goal.invariant-loop-grain
invariant-loop-grain l =
    l.cut.items ++ cut_at l.self.decimals l.self.at (drop l.grain-index l.grains)
    ≡ cut_at l.self.decimals l.self.at l.grains
