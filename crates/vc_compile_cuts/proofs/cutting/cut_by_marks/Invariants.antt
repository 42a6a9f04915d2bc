use Rattle.std.proofs.Common.{◌≡◌, ◌++◌, drop, map, flat_map}
use Rattle.vc_compile_cuts.specs.Cutting.{cut_from, domains_seen}
use Rattle.vc_compile_cuts.specs.Marks.{marks_seen}
use Rattle.vc_compile_cuts.proofs.cutting.cut_by_marks.Given as goal

abbrev pub invariant-loop-mark : goal.invariant-loop-mark
invariant-loop-mark l =
    cut_from (marks_seen (drop l.mark-index l.marks)) 0 (domains_seen l.all.items)
    ≡ cut_from (marks_seen l.marks) 0 (domains_seen l.fn.all.items)
