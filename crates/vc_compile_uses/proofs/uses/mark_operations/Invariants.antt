use Rattle.std.proofs.Common.{◌≡◌, drop, flat_map}
use Rattle.vc_compile_uses.specs.Marks.{mark_all}
use Rattle.vc_compile_uses.proofs.uses.mark_operations.Given as goal

abbrev pub invariant-loop-operation : goal.invariant-loop-operation
invariant-loop-operation l =
    mark_all l.marks (flat_map (λ operation. operation.uses) (drop l.operation-index l.operations))
    ≡ mark_all l.fn.marks (flat_map (λ operation. operation.uses) l.operations)
