use Rattle.std.proofs.Common.{◌≡◌, ◌++◌, drop, map, flat_map}
use Rattle.vc_compile_cuts.specs.Marks.{marks_seen}
use Rattle.vc_compile_cuts.proofs.marks.put_marks.Given as goal

abbrev pub invariant-loop-mark : goal.invariant-loop-mark
invariant-loop-mark l =
    marks_seen l.out ++ marks_seen (drop l.mark-index l.marks) ≡ marks_seen l.fn.out ++ marks_seen l.marks
