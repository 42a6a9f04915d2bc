use Rattle.std.proofs.Common.{◌≡◌, ◌++◌, drop}
use Rattle.vc_compile_uses.specs.Marks.{marked_from}
use Rattle.vc_compile_uses.proofs.marks.marked_numbers.Given as goal

abbrev pub invariant-loop-number : goal.invariant-loop-number
invariant-loop-number l =
    l.numbers ++ marked_from l.number (drop l.number l.marks) ≡ marked_from 0 l.marks
