-- The door wasn't ready, or links were served.
use Rattle.vc_desk.specs.Desks.{state_of}
use Rattle.vc_app_serve.specs.Serving.{at_door}
use Rattle.vc_app_serve.specs.Visits.{links, telling}
use Rattle.vc_app_serve.proofs.DeskLaws.{unready}
use Rattle.vc_app_serve.proofs.serving.serve_desk.Goals as goal

pub returns-in-Err-clause-ends : goal.returns-in-Err-clause-ends
returns-in-Err-clause-ends g c =
    let coming = g.D.Door.coming in
    let finished = g.D.Door.finished in
    let address = g.D.Door.address in
    let faults = g.D.Door.faults in
    let old = c.args in
    let door = c.listen.new.door in
    unready (telling g.D.Conn.Link.left g.D.Conn.Link.written g.D.Conn.Link.faults) old.desk.now.plan old.address.now
    old.count
    (state_of old.desk.now.sessions (g.K.Keeper.texts old.keeper.now) (g.K.Keeper.faults old.keeper.now))
    (at_door (links (coming old.door.now) (coming door) (finished old.door.now) (finished door))
    (address old.door.now) (address door) (faults old.door.now) (faults door))
    c.in-Err.stop c.in-Err.ensures.readies
