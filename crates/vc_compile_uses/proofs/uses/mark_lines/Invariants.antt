use Rattle.std.proofs.Common.{◌≡◌, drop, flat_map}
use Rattle.vc_compile_uses.specs.Marks.{mark_all}
use Rattle.vc_compile_uses.proofs.uses.mark_lines.Given as goal

abbrev pub invariant-loop-line : goal.invariant-loop-line
invariant-loop-line l =
    mark_all l.marks (flat_map (λ line. line.uses) (drop l.line-index l.bill))
    ≡ mark_all l.fn.marks (flat_map (λ line. line.uses) l.bill)
