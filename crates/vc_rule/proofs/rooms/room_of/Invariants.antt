use Rattle.std.specs.Prelude.{◌≡◌, length}
use Rattle.vc_rule.specs.Rooms.{greater, room_in, rooms_of, rooms_of_rules}
use Rattle.vc_rule.proofs.rooms.room_of.Given as goal

abbrev pub decreases-loop-rest : goal.decreases-loop-rest
decreases-loop-rest l = length l.rest

-- the room so far and that of the rules left are that of all
abbrev pub invariant-loop-rest : goal.invariant-loop-rest
invariant-loop-rest l = greater (room_in l.room) (rooms_of_rules l.plan l.rest) ≡ rooms_of l.plan
