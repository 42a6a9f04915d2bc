use Rattle.std.proofs.Common.{◌≡◌, ◌++◌, drop}
use Rattle.vc_compile_tuples.specs.Growing.{choice_from}
use Rattle.vc_compile_tuples.proofs.choices.choice_of.Given as goal

abbrev pub invariant-loop-number : goal.invariant-loop-number
invariant-loop-number l =
    l.choice ++ choice_from l.names.model.now l.kind l.number (drop l.number l.slots)
    ≡ choice_from l.names.model.now l.kind 0 l.slots
