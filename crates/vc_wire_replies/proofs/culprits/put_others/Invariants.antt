-- What is put so far and what is to come are all of it.
use Rattle.std.proofs.Common.{◌≡◌, ◌++◌, drop}
use Rattle.std.specs.List.{flat_map}
use Rattle.vc_wire_replies.specs.Culprits.{other_slot}
use Rattle.vc_wire_replies.proofs.culprits.put_others.Given as goal

abbrev pub invariant-loop-slot : goal.invariant-loop-slot
invariant-loop-slot l = l.out ++ flat_map other_slot (drop l.slot-index l.slots)
    ≡ l.initial.out ++ flat_map other_slot l.slots
