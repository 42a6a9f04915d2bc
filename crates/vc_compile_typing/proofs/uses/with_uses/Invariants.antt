use Rattle.std.proofs.Common.{◌≡◌, drop}
use Rattle.vc_compile_plan.specs.Refusals.{typed_at}
use Rattle.vc_compile_layout.specs.Standing.{layout_seen}
use Rattle.vc_compile_typing.specs.Finding.{first_with, seen_if}
use Rattle.vc_compile_typing.proofs.uses.with_uses.Given as goal

abbrev pub invariant-loop-number : goal.invariant-loop-number
invariant-loop-number l =
    first_with (layout_seen l.layout).model (seen_if l.first)
    (typed_at (layout_seen l.layout).model (λ dependency. l.place) (drop l.number-index l.uses))
    ≡ first_with (layout_seen l.layout).model (seen_if l.fn.before)
    (typed_at (layout_seen l.layout).model (λ dependency. l.place) l.uses)
