use Rattle.std.proofs.Common.{◌≡◌, drop, flat_map, slice_get}
use Rattle.vc_compile_plan.specs.Places.{place_at}
use Rattle.vc_compile_plan.specs.Refusals.{at_of, typed_at}
use Rattle.vc_compile_plan.specs.Uses.{uses_of_characteristic}
use Rattle.vc_compile_layout.specs.Standing.{layout_seen}
use Rattle.vc_compile_typing.specs.Finding.{first_with, seen_if}
use Rattle.vc_compile_typing.proofs.members.with_members.Given as goal

abbrev pub invariant-loop-member : goal.invariant-loop-member
invariant-loop-member l =
    first_with (layout_seen l.layout).model (seen_if l.first)
    (typed_at (layout_seen l.layout).model (λ dependency. place_at (layout_seen l.layout) l.slot (at_of dependency))
    (flat_map (λ c. uses_of_characteristic (slice_get (layout_seen l.layout).model.characteristics c))
    (drop l.member-index l.members)))
    ≡ first_with (layout_seen l.layout).model (seen_if l.fn.before)
    (typed_at (layout_seen l.layout).model (λ dependency. place_at (layout_seen l.layout) l.slot (at_of dependency))
    (flat_map (λ c. uses_of_characteristic (slice_get (layout_seen l.layout).model.characteristics c)) l.members))
