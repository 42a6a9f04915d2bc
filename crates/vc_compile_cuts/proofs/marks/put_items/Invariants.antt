use Rattle.std.proofs.Common.{◌≡◌, ◌++◌, drop, map, flat_map}
use Rattle.vc_compile_plan.specs.Cuts.{item_numbers}
use Rattle.vc_compile_cuts.specs.Marks.{marks_on, marks_seen}
use Rattle.vc_compile_cuts.proofs.marks.put_items.Given as goal

abbrev pub invariant-loop-item : goal.invariant-loop-item
invariant-loop-item l =
    marks_seen l.out ++ marks_on l.characteristic (flat_map item_numbers (drop l.item-index l.items))
    ≡ marks_seen l.fn.out ++ marks_on l.characteristic (flat_map item_numbers l.items)
