-- The parts of what a net works on, as they are at the start.
use Rattle.std.specs.Prelude.{◌≡◌, ◌≤◌}
use Rattle.vc_plan.specs.declared.plans.Plan.{Plan}
use Rattle.vc_plan.specs.Bounds.{greatest}
use Rattle.vc_net_blame.specs.Finding.{collision_bound}
use Rattle.vc_net_bounds.specs.Counting.{clash_cells}
use Rattle.vc_net_places.specs.Cells.{bounds_of}
use Rattle.vc_net_readers.specs.Readers.{readers_of}
use Rattle.vc_net_waking.specs.Beginning.{untriggered}
use Rattle.vc_net_waking.specs.Laws.{IsAgendaOf}
use Rattle.vc_net_going.specs.declared.breaker.Breaker.{Breaker}
use Rattle.vc_net_going.specs.declared.parts.Asking.{Asking}

-- who may be asked, and whom atoms wake, are the plan's
pub record IsAskingOf (plan : Plan) (asking : Asking) : Type 0 where
  pub sizes : IsAgendaOf plan asking.agenda
  pub readers : asking.readers ≡ readers_of plan
  pub untriggered : asking.untriggered ≡ untriggered plan

-- there is room for whatever may break the net of the plan
pub record HasRoomFor (plan : Plan) (breaker : Breaker) : Type 0 where
  pub reasons : greatest (λ n. n) (bounds_of plan) ≤ breaker.reasons.room
  pub collisions : collision_bound plan ≤ breaker.premises.room
  pub clashes : clash_cells plan ≤ breaker.premises.room
