use Rattle.std.proofs.Common.{◌≡◌, length, take}
use Rattle.std.specs.Prelude.{sum_by}
use Rattle.vc_compile_plan.specs.Slots.{bill_of}
use Rattle.vc_compile_slots.proofs.standing.line_count.Given as goal

abbrev pub invariant-loop-standing : goal.invariant-loop-standing
invariant-loop-standing l = l.count
    ≡ sum_by (λ standing. length (bill_of l.model standing.object)) (take l.standing-index l.standings)
