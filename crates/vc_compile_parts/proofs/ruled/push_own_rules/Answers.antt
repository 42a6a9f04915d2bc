use Rattle.std.proofs.Common.{subst}
use Rattle.vc_compile_plan.specs.Rules.{last_drafts, slot_drafts_from}
use Rattle.vc_compile_numbering.specs.Growing.{seen}
use Rattle.vc_compile_rules.specs.Adding.{Adds}
use Rattle.vc_compile_layout.specs.Standing.{layout_seen}
use Rattle.vc_compile_parts.proofs.RoomLaws.{adds_both}
use Rattle.vc_compile_parts.proofs.ruled.push_own_rules.Goals as goal

pub returns-in_ok-room-in-Enough : goal.returns-in_ok-room-in-Enough
returns-in_ok-room-in-Enough c =
    let layout = layout_seen c.args.layout.now in
    adds_both c.in_ok-room-in-Enough.room (seen c.args.out.now) (seen c.push_last_rules.new.out)
    (seen c.push_line_rules.new.out)
    (last_drafts layout) (slot_drafts_from layout 0 layout.standings)
    (subst (λ r. Adds r (seen c.args.out.now) (last_drafts layout) (seen c.push_last_rules.new.out)) c.in-Enough.is
    c.in_ok-push_last_rules.ensures)
    c.in_ok-room-in-Enough.ensures
