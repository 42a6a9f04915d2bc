use Rattle.std.proofs.Common.{◌≡◌, take, flat_map}
use Rattle.vc_compile_plan.specs.Refusals.{typed_slot}
use Rattle.vc_compile_layout.specs.Standing.{layout_seen}
use Rattle.vc_compile_typing.specs.Finding.{first_with, seen_if}
use Rattle.vc_compile_typing.proofs.slots.with_slots.Given as goal

abbrev pub invariant-loop-number : goal.invariant-loop-number
invariant-loop-number l =
    seen_if l.first ≡ first_with (layout_seen l.layout).model (seen_if l.fn.before)
    (flat_map (typed_slot (layout_seen l.layout)) (take l.number l.slots))
