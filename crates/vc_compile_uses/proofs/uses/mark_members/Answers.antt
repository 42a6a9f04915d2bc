use Rattle.std.specs.Prelude.{slice_get}
use Rattle.vc_compile_plan.specs.Uses.{uses_of_characteristic}
use Rattle.vc_compile_uses.proofs.MarkLemmas.{mark_next}
use Rattle.vc_compile_uses.proofs.uses.mark_members.Goals as goal

pub loop-member-preserved : goal.loop-member-preserved
loop-member-preserved c =
    mark_next (λ member. uses_of_characteristic (slice_get c.args.model.now.characteristics member))
    c.members_of-members.result.now c.loop-member.member-index _ _ _ _ c.loop-member-test.true
    c.mark_member.ensures c.loop-member.invariant
