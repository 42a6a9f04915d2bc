use Rattle.std.proofs.Common.{◌≡◌, ◌++◌, drop, map}
use Rattle.vc_compile_plan.specs.Slots.{slot_of}
use Rattle.vc_compile_slots.proofs.standing.slots_of.Given as goal

abbrev pub invariant-loop-standing : goal.invariant-loop-standing
invariant-loop-standing l =
    l.found ++ map (slot_of l.model l.standings) (drop l.standing-index l.standings)
    ≡ map (slot_of l.model l.standings) l.standings
