use Rattle.std.proofs.Common.{◌≡◌, ◌++◌, drop}
use Rattle.std.specs.List.{flat_map}
use Rattle.vc_value.specs.Grains.{parts_of}
use Rattle.vc_value.proofs.grains.parts_of_all.Given as goal

abbrev pub invariant-loop-grain : goal.invariant-loop-grain
invariant-loop-grain l = l.parts.items ++ flat_map (parts_of l.unit l.at.millionths) (drop l.grain-index l.grains)
    ≡ flat_map (parts_of l.unit l.at.millionths) l.grains
