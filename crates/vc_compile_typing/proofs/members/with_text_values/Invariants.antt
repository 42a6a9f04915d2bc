use Rattle.std.proofs.Common.{◌≡◌, drop, flat_map}
use Rattle.vc_compile_plan.specs.Places.{place_at}
use Rattle.vc_compile_plan.specs.Refusals.{at_of, typed_at}
use Rattle.vc_compile_layout.specs.Standing.{layout_seen}
use Rattle.vc_compile_typing.specs.Finding.{first_with, seen_if}
use Rattle.vc_compile_typing.proofs.members.with_text_values.Given as goal

abbrev pub invariant-loop-value : goal.invariant-loop-value
invariant-loop-value l =
    first_with (layout_seen l.layout).model (seen_if l.first)
    (typed_at (layout_seen l.layout).model (λ dependency. place_at (layout_seen l.layout) l.slot (at_of dependency))
    (flat_map (λ value. value.uses) (drop l.value-index l.values)))
    ≡ first_with (layout_seen l.layout).model (seen_if l.fn.before)
    (typed_at (layout_seen l.layout).model (λ dependency. place_at (layout_seen l.layout) l.slot (at_of dependency))
    (flat_map (λ value. value.uses) l.values))
