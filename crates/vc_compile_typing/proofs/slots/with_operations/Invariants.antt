use Rattle.std.proofs.Common.{◌≡◌, drop, flat_map}
use Rattle.vc_compile_plan.specs.Refusals.{typed_operation}
use Rattle.vc_compile_layout.specs.Standing.{layout_seen}
use Rattle.vc_compile_typing.specs.Finding.{first_with, seen_if}
use Rattle.vc_compile_typing.proofs.slots.with_operations.Given as goal

abbrev pub invariant-loop-operation : goal.invariant-loop-operation
invariant-loop-operation l =
    first_with (layout_seen l.layout).model (seen_if l.first)
    (flat_map (typed_operation (layout_seen l.layout) l.slot) (drop l.operation-index l.operations))
    ≡ first_with (layout_seen l.layout).model (seen_if l.fn.before)
    (flat_map (typed_operation (layout_seen l.layout) l.slot) l.operations)
