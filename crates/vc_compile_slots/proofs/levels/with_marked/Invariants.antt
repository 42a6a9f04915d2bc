use Rattle.std.proofs.Common.{◌≡◌, ◌++◌, drop}
use Rattle.vc_compile_slots.specs.Levels.{with_marked}
use Rattle.vc_compile_slots.proofs.levels.with_marked.Given as goal

abbrev pub invariant-loop-object : goal.invariant-loop-object
invariant-loop-object l = l.found ++ with_marked l.marks (drop l.object-index l.objects) ≡ with_marked l.marks l.objects
