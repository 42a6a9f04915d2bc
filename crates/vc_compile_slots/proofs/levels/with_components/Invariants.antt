use Rattle.std.proofs.Common.{◌≡◌, ◌++◌, drop}
use Rattle.vc_compile_slots.specs.Levels.{with_components}
use Rattle.vc_compile_slots.proofs.levels.with_components.Given as goal

abbrev pub invariant-loop-object : goal.invariant-loop-object
invariant-loop-object l = l.found ++ with_components (drop l.object-index l.objects) ≡ with_components l.objects
