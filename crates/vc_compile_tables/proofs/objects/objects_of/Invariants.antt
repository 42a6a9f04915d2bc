use Rattle.std.proofs.Common.{◌≡◌, ◌++◌, drop, map}
use Rattle.vc_compile_plan.specs.Tables.{objects_from, objects_of}
use Rattle.vc_compile_tables.proofs.objects.objects_of.Given as goal

abbrev pub invariant-loop-number : goal.invariant-loop-number
invariant-loop-number l =
    l.objects ++ objects_from l.model l.number (drop l.number l.model.objects) ≡ objects_of l.model
