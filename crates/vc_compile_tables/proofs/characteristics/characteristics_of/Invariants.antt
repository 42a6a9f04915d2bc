use Rattle.std.proofs.Common.{◌≡◌, ◌++◌, drop, map}
use Rattle.vc_compile_plan.specs.Tables as kept
use Rattle.vc_compile_tables.proofs.characteristics.characteristics_of.Given as goal

abbrev pub invariant-loop-characteristic : goal.invariant-loop-characteristic
invariant-loop-characteristic l =
    l.all ++ map kept.characteristic_from (drop l.characteristic-index l.declared)
    ≡ map kept.characteristic_from l.declared
