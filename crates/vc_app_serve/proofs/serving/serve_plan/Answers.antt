-- No session is open at first.
use Rattle.vc_desk.specs.Desks.{open_of, state_of}
use Rattle.vc_desk.proofs.OpenLaws.{begins}
use Rattle.vc_app_serve.specs.Serving.{DeskEnds, at_door}
use Rattle.vc_app_serve.specs.Visits.{links, telling}
use Rattle.vc_app_serve.proofs.serving.serve_plan.Goals as goal

pub returns-clause-ends : goal.returns-clause-ends
returns-clause-ends g c =
    let texts = g.K.Keeper.texts in
    let faults = g.K.Keeper.faults in
    let old = c.args in
    let desk = c.new-desk.result in
    let new = c.serve_desk-served.new in
    let last = state_of new.desk.sessions (texts new.keeper) (faults new.keeper) in
    let door = at_door (links (g.D.Door.coming old.door.now) (g.D.Door.coming new.door)
    (g.D.Door.finished old.door.now) (g.D.Door.finished new.door))
    (g.D.Door.address old.door.now) (g.D.Door.address new.door) (g.D.Door.faults old.door.now)
    (g.D.Door.faults new.door) in
    record {
      last = open_of new.desk.sessions;
      ends = begins desk old.plan (texts old.keeper.now) (faults old.keeper.now)
          (λ plan state. DeskEnds (telling g.D.Conn.Link.left g.D.Conn.Link.written g.D.Conn.Link.faults) plan
          old.address.now old.count state last door c.serve_desk-served.result)
          c.new-desk.ensures.plan c.new-desk.ensures.none c.serve_desk-served.ensures.ends;
    }
