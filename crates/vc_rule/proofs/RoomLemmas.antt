-- The greater of rooms, taken in turn.
use Rattle.std.proofs.Common.{◌≡◌, ℕ, List, [], ◌∷◌, sym, ◌∙◌, ap, arith}
use Rattle.std.specs.Prelude.{max}
use Rattle.vc_plan.specs.declared.plans.Plan.{Plan}
use Rattle.vc_plan.specs.declared.rules.Rule.{Rule}
use Rattle.vc_rule_yield.specs.Yielding.{Rooms}
use Rattle.vc_rule.specs.declared.rooms.Room.{Room}
use Rattle.vc_rule.specs.Rooms.{greater, room_in, room_of_kind, rooms_of_rules}

max_assoc : (a b c : ℕ) → max (max a b) c ≡ max a (max b c)
max_assoc a b c = omega arith

max_zero : (a : ℕ) → max a 0 ≡ a
max_zero a = omega arith

-- one more taken, and none left
pub one_greater : (plan : Plan) (all : Rooms) (so_far now next : Room) (rule : Rule) (rest : List Rule)
    → greater (room_in so_far) (rooms_of_rules plan (rule ∷ rest)) ≡ all
    → room_in now ≡ room_of_kind plan rule rule.kind
    → room_in next ≡ greater (room_in so_far) (room_in now) → greater (room_in next) (rooms_of_rules plan rest) ≡ all
one_greater plan all so_far now next rule rest e k h =
    let s = room_in so_far in
    let m = room_of_kind plan rule rule.kind in
    let later = rooms_of_rules plan rest in
    ap (λ z. greater z later) (h ∙ ap (greater s) k)
    ∙ ((λ i. record {
      cites = max_assoc s.cites m.cites later.cites i;
      atoms = max_assoc s.atoms m.atoms later.atoms i;
      premises = max_assoc s.premises m.premises later.premises i;
    }) ∙ e)

pub none_greater : (plan : Plan) (all : Rooms) (so_far : Room)
    → greater (room_in so_far) (rooms_of_rules plan []) ≡ all → room_in so_far ≡ all
none_greater plan all so_far e =
    sym (λ i. record {
      cites = max_zero so_far.cites i;
      atoms = max_zero so_far.atoms i;
      premises = max_zero so_far.premises i;
    }) ∙ e
