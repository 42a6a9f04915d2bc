use Rattle.std.proofs.Common.{◌≡◌, ◌++◌, drop, map}
use Rattle.vc_compile_plan.specs.Conditions.{piece_of}
use Rattle.vc_compile_layout.specs.Standing.{layout_seen}
use Rattle.vc_compile_sites.proofs.conditions.pieces_of.Given as goal

abbrev pub invariant-loop-item : goal.invariant-loop-item
invariant-loop-item l =
    l.pieces ++ map (piece_of (layout_seen l.layout).texts) (drop l.item-index l.items)
    ≡ map (piece_of (layout_seen l.layout).texts) l.items
