use Rattle.std.proofs.Common.{◌≡◌, drop, flat_map}
use Rattle.vc_compile_uses.specs.Marks.{mark_all}
use Rattle.vc_compile_uses.proofs.uses.mark_number_values.Given as goal

abbrev pub invariant-loop-value : goal.invariant-loop-value
invariant-loop-value l =
    mark_all l.marks (flat_map (λ value. value.uses) (drop l.value-index l.values))
    ≡ mark_all l.fn.marks (flat_map (λ value. value.uses) l.values)
