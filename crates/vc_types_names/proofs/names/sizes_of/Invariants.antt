use Rattle.std.proofs.Common.{◌≡◌, map, take}
use Rattle.vc_types.specs.RangeFaults.{size_of_values}
use Rattle.vc_types_names.proofs.names.sizes_of.Given as goal

abbrev pub invariant-loop-characteristic : goal.invariant-loop-characteristic
invariant-loop-characteristic l = l.sizes
    ≡ map (λ c. size_of_values c.values) (take l.characteristic-index l.characteristics)
