use Rattle.std.proofs.Common.{◌≡◌, ◌++◌, drop}
use Rattle.vc_compile_tuples.specs.Growing.{choices_of}
use Rattle.vc_compile_tuples.proofs.choices.choices_of.Given as goal

abbrev pub invariant-loop-object : goal.invariant-loop-object
invariant-loop-object l =
    l.choices ++ choices_of l.names.model.now l.slots (drop l.object-index l.objects)
    ≡ choices_of l.names.model.now l.slots l.objects
