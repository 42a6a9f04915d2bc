-- The keeper was begun, and a desk of the plan ended so from what it opened.
use Rattle.std.proofs.Common.{◌≡◌, ◌∙◌}
use Rattle.std.specs.Option.{option_map}
use Rattle.vc_desk.specs.Keeping.{keeping}
use Rattle.vc_app_serve.specs.Serving.{at_door, read_from, service}
use Rattle.vc_app_serve.specs.Visits.{links, telling}
use Rattle.vc_app_serve.proofs.ServeLaws.{ends_begun, plan_ends}
use Rattle.vc_app_serve.proofs.serving.serve_model.Goals as goal

pub returns-in-Ok-begin-clause-ends : goal.returns-in-Ok-begin-clause-ends
returns-in-Ok-begin-clause-ends g c =
    let old = c.args in
    let new = c.serve_plan.new in
    let between = c.begin.new.self in
    let texts = g.K.Keeper.texts in
    let faults = g.K.Keeper.faults in
    let place = option_map (λ name. name.now) old.keep_file in
    let opened = g.K.Keeper.opens old.keeper.now place in
    let tells = telling g.D.Conn.Link.left g.D.Conn.Link.written g.D.Conn.Link.faults in
    let door = at_door (links (g.D.Door.coming old.door.now) (g.D.Door.coming new.door)
    (g.D.Door.finished old.door.now) (g.D.Door.finished new.door)) (g.D.Door.address old.door.now)
    (g.D.Door.address new.door) (g.D.Door.faults old.door.now) (g.D.Door.faults new.door) in
    plan_ends tells (service old.model.now old.address.now old.count place)
    (read_from (g.F.Shelf.files old.shelf.now) (g.F.Shelf.faults old.shelf.now)
    (g.F.Shelf.faults c.load_plan.new.shelf))
    (keeping (texts old.keeper.now) opened (texts new.keeper) (faults old.keeper.now) (faults new.keeper)
    (g.K.Keeper.begun new.keeper)) ((new.keeper ≡ old.keeper.now) × (new.door ≡ old.door.now)) door
    c.serve_plan.result (record {
      plan = c.in-Ok.plan;
      loads = c.in-Ok.ensures.plan;
      begun = c.serve_plan.ensures.begun ∙ c.in-Ok-begin.ensures.begun;
      ends = ends_begun tells c.in-Ok.plan old.address.now old.count (texts between) (texts old.keeper.now)
          (texts between) opened (texts new.keeper) (faults between) (faults old.keeper.now) (faults new.keeper)
          (g.K.Keeper.begun new.keeper) door c.serve_plan.result c.in-Ok-begin.ensures.texts
          c.in-Ok-begin.ensures.cause.raises c.serve_plan.ensures.ends;
    })
