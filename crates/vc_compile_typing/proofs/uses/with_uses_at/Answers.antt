use Rattle.vc_compile_layout.specs.Standing.{layout_seen}
use Rattle.vc_compile_plan.specs.Places.{place_at}
use Rattle.vc_compile_typing.specs.Finding.{seen_if}
use Rattle.vc_compile_typing.proofs.FindingLemmas.{typed_step}
use Rattle.vc_compile_plan.specs.Refusals.{at_of, typed_if}
use Rattle.vc_compile_typing.proofs.uses.with_uses_at.Goals as goal

pub loop-number-preserved : goal.loop-number-preserved
loop-number-preserved c =
    let model = (layout_seen c.args.layout.now).model in
    typed_step model (typed_if model
    (λ dependency. place_at (layout_seen c.args.layout.now) c.args.slot.now (at_of dependency)))
    c.args.uses.now c.loop-number.number-index 0 _ (seen_if c.loop-number.first) _
    c.loop-number-test.true c.loop-number.invariant c.in_ok-first.ensures
