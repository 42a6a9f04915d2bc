use Rattle.std.proofs.Common.{◌≡◌, drop, flat_map}
use Rattle.vc_compile_plan.specs.Refusals.{typed_line}
use Rattle.vc_compile_layout.specs.Standing.{layout_seen}
use Rattle.vc_compile_typing.specs.Finding.{first_with, seen_if}
use Rattle.vc_compile_typing.proofs.slots.with_lines.Given as goal

abbrev pub invariant-loop-item : goal.invariant-loop-item
invariant-loop-item l =
    first_with (layout_seen l.layout).model (seen_if l.first)
    (flat_map (typed_line (layout_seen l.layout) l.slot) (drop l.item-index l.bill))
    ≡ first_with (layout_seen l.layout).model (seen_if l.fn.before)
    (flat_map (typed_line (layout_seen l.layout) l.slot) l.bill)
