use Rattle.std.proofs.Common.{◌-◌, ◌≡◌, false, ◌≤◌}
use Rattle.vc_desk.specs.Desks.{IsDesk, state_of}
use Rattle.vc_app_serve.specs.Visits.{Serves, links, telling}
use Rattle.vc_app_serve.proofs.linking.serve_links.Given as goal

-- so many links are served
abbrev pub invariant-loop-served : goal.invariant-loop-served
invariant-loop-served g l =
    let texts = g.K.Keeper.texts in
    let faults = g.K.Keeper.faults in
    let coming = g.D.Door.coming in
    let finished = g.D.Door.finished in
    record {
      so_far : Serves (telling g.D.Conn.Link.left g.D.Conn.Link.written g.D.Conn.Link.faults) l.fn.desk.plan
          (state_of l.fn.desk.sessions (texts l.fn.keeper) (faults l.fn.keeper))
          (state_of l.desk.sessions (texts l.keeper) (faults l.keeper))
          (links (coming l.fn.door) (coming l.door) (finished l.fn.door) (finished l.door)) l.served;
      few : l.served ≤ l.count;
      is : IsDesk l.desk;
      plan : l.desk.plan ≡ l.fn.desk.plan;
      begun : g.K.Keeper.begun l.keeper ≡ g.K.Keeper.begun l.fn.keeper;
      address : g.D.Door.address l.door ≡ g.D.Door.address l.fn.door;
      home : g.D.Door.is_out l.door ≡ false;
      calm : g.D.Door.faults l.door ≡ g.D.Door.faults l.fn.door;
    }

abbrev pub decreases-loop-served : goal.decreases-loop-served
decreases-loop-served g l = l.count - l.served
