-- What things reach is the least list of what rules write from them.
use Rattle.std.proofs.Common.{◌≡◌, true, refl, ap}
use Rattle.std.proofs.lemmas.Bool.{eqb-true, eq-eqb}
use Rattle.vc_base.proofs.SpreadLaws.{reach_distinct, reach_least, reach_spreads}
use Rattle.vc_plan_reasons.specs.Laws.{ReachIsLeast}
use Rattle.vc_plan_reasons.specs.Things.{Thing, slot_at, var_at, same_thing}
use Rattle.vc_plan_reasons.specs.Work.{links_of}

-- things are told apart exactly
pub thing_exact : (a b : Thing) → same_thing a b ≡ true → a ≡ b
thing_exact (slot_at i) (slot_at j) e = ap slot_at (eqb-true i j e)
thing_exact (slot_at i) (var_at w) e = absurd (cc)
thing_exact (var_at v) (slot_at j) e = absurd (cc)
thing_exact (var_at v) (var_at w) e = ap var_at (eqb-true v w e)

pub thing_itself : (a : Thing) → same_thing a a ≡ true
thing_itself (slot_at i) = eq-eqb i i refl
thing_itself (var_at v) = eq-eqb v v refl

pub reach_is_least : ReachIsLeast
reach_is_least plan things = (
  reach_spreads (links_of plan) thing_exact thing_itself things,
  reach_distinct (links_of plan) thing_exact thing_itself things,
  reach_least (links_of plan) thing_exact thing_itself things,
)
