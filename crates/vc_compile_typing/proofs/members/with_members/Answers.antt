use Rattle.std.proofs.Common.{ℕ, List, slice_get}
use Rattle.vc_compile_layout.specs.Standing.{layout_seen}
use Rattle.vc_compile_plan.specs.Places.{place_at}
use Rattle.vc_compile_typing.specs.Finding.{seen_if}
use Rattle.vc_compile_typing.proofs.FindingLemmas.{uses_step}
use Rattle.vc_compile_plan.specs.Refusals.{at_of}
use Rattle.vc_compile_plan.specs.Uses.{uses_of_characteristic}
use Rattle.vc_compile_typing.proofs.members.with_members.Goals as goal

pub loop-member-preserved : goal.loop-member-preserved
loop-member-preserved c =
    let model = (layout_seen c.args.layout.now).model in
    let uses : ℕ → List ℕ = λ m. uses_of_characteristic (slice_get model.characteristics m) in
    uses_step model (λ dependency. place_at (layout_seen c.args.layout.now) c.args.slot.now (at_of dependency))
    uses c.args.members.now c.loop-member.member-index 0 _ (seen_if c.loop-member.first) _
    c.loop-member-test.true c.loop-member.invariant c.in_ok-first.ensures
