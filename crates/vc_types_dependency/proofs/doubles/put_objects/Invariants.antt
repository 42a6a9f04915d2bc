use Rattle.std.proofs.Common.{◌≡◌, ◌++◌, drop, flat_map}
use Rattle.vc_types_dependency.specs.DeclaredNames.{names_seen, declared_names}
use Rattle.vc_types_dependency.proofs.doubles.put_objects.Given as goal

abbrev pub invariant-loop-object : goal.invariant-loop-object
invariant-loop-object l = names_seen l.out ++ flat_map declared_names (drop l.object-index l.objects)
    ≡ names_seen l.fn.out ++ flat_map declared_names l.objects
