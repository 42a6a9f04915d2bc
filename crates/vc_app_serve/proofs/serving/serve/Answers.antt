-- Nothing is said where all links were served, and else what stopped it.
use Rattle.std.proofs.Common.{◌≡◌, refl, Ok}
use Rattle.std.specs.Option.{option_map}
use Rattle.vc_desk.specs.Keeping.{keeping}
use Rattle.vc_app_check.specs.Checking.{outside}
use Rattle.vc_app_check.proofs.CheckLaws.{some_spot}
use Rattle.vc_app_serve.specs.Serving.{at_door, service}
use Rattle.vc_app_serve.specs.Visits.{links, telling}
use Rattle.vc_app_serve.proofs.ServeLaws.{ends_told, ends_with}
use Rattle.vc_app_serve.proofs.serving.serve.Goals as goal

pub returns-in-Ok-clause-ends : goal.returns-in-Ok-clause-ends
returns-in-Ok-clause-ends g c =
    let old = c.args in
    let new = c.serve_model.new in
    let texts = g.K.Keeper.texts in
    let faults = g.K.Keeper.faults in
    let written = g.S.Sink.written old.out.now in
    let sunk = g.S.Sink.faults old.out.now in
    ends_with (some_spot old.alloc) (telling g.D.Conn.Link.left g.D.Conn.Link.written g.D.Conn.Link.faults)
    (service old.model.now old.address.now old.count (option_map (λ name. name.now) old.keep_file))
    (outside (g.F.Shelf.files old.shelf.now) (g.F.Shelf.faults old.shelf.now) (g.F.Shelf.faults new.shelf) written
    written sunk sunk)
    (keeping (texts old.keeper.now) (g.K.Keeper.opens old.keeper.now (option_map (λ name. name.now) old.keep_file))
    (texts new.keeper) (faults old.keeper.now) (faults new.keeper) (g.K.Keeper.begun new.keeper))
    ((new.keeper ≡ old.keeper.now) × (new.door ≡ old.door.now))
    (at_door (links (g.D.Door.coming old.door.now) (g.D.Door.coming new.door) (g.D.Door.finished old.door.now)
    (g.D.Door.finished new.door)) (g.D.Door.address old.door.now) (g.D.Door.address new.door)
    (g.D.Door.faults old.door.now) (g.D.Door.faults new.door))
    0 (Ok tt) c.in-Ok.ensures.ends (refl, refl, refl)

pub returns-in-Err-clause-ends : goal.returns-in-Err-clause-ends
returns-in-Err-clause-ends g c =
    let old = c.args in
    let new = c.serve_model.new in
    let texts = g.K.Keeper.texts in
    let faults = g.K.Keeper.faults in
    let written = g.S.Sink.written in
    let sunk = g.S.Sink.faults in
    ends_told (some_spot old.alloc) (telling g.D.Conn.Link.left g.D.Conn.Link.written g.D.Conn.Link.faults)
    (service old.model.now old.address.now old.count (option_map (λ name. name.now) old.keep_file))
    (outside (g.F.Shelf.files old.shelf.now) (g.F.Shelf.faults old.shelf.now) (g.F.Shelf.faults new.shelf)
    (written old.out.now) (written c.say_stop.new.out) (sunk old.out.now) (sunk c.say_stop.new.out))
    (keeping (texts old.keeper.now) (g.K.Keeper.opens old.keeper.now (option_map (λ name. name.now) old.keep_file))
    (texts new.keeper) (faults old.keeper.now) (faults new.keeper) (g.K.Keeper.begun new.keeper))
    ((new.keeper ≡ old.keeper.now) × (new.door ≡ old.door.now))
    (at_door (links (g.D.Door.coming old.door.now) (g.D.Door.coming new.door) (g.D.Door.finished old.door.now)
    (g.D.Door.finished new.door)) (g.D.Door.address old.door.now) (g.D.Door.address new.door)
    (g.D.Door.faults old.door.now) (g.D.Door.faults new.door))
    c.say_stop.result c.in-Err.stop c.in-Err.ensures.ends c.say_stop.ensures
