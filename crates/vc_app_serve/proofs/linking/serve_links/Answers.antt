-- One link more is served, or none came; in the end all are.
use Rattle.std.proofs.Common.{rules, refl, subst, ◌∙◌}
use Rattle.vc_desk.specs.Desks.{state_of}
use Rattle.vc_app_serve.specs.Visits.{ServesOne, links, telling}
use Rattle.vc_app_serve.proofs.VisitLaws.{serves_none, serves_push}
use Rattle.vc_app_serve.proofs.linking.serve_links.Goals as goal

pub loop-served-init : goal.loop-served-init
loop-served-init g c = record {
  so_far = serves_none (telling g.D.Conn.Link.left g.D.Conn.Link.written g.D.Conn.Link.faults) c.args.desk.now.plan
      (state_of c.args.desk.now.sessions (g.K.Keeper.texts c.args.keeper.now) (g.K.Keeper.faults c.args.keeper.now))
      (links (g.D.Door.coming c.args.door.now) (g.D.Door.coming c.args.door.now)
      (g.D.Door.finished c.args.door.now) (g.D.Door.finished c.args.door.now))
      (record { coming = refl; finished = refl });
  few = search rules;
  is = c.requires.is;
  plan = refl;
  begun = refl;
  address = refl;
  home = c.requires.home;
  calm = refl;
}

pub loop-served-preserved : goal.loop-served-preserved
loop-served-preserved g c =
    let texts = g.K.Keeper.texts in
    let faults = g.K.Keeper.faults in
    let coming = g.D.Door.coming in
    let finished = g.D.Door.finished in
    let tells = telling g.D.Conn.Link.left g.D.Conn.Link.written g.D.Conn.Link.faults in
    let old = c.args in
    let here = c.loop-served in
    let next = c.serve_link.new in
    let before = state_of old.desk.now.sessions (texts old.keeper.now) (faults old.keeper.now) in
    let between = state_of here.desk.sessions (texts here.keeper) (faults here.keeper) in
    let after = state_of next.desk.sessions (texts next.keeper) (faults next.keeper) in
    record {
      so_far = serves_push tells old.desk.now.plan before between after (coming old.door.now) (coming here.door)
          (coming next.door) (finished old.door.now) (finished here.door) (finished next.door) here.served
          here.invariant.so_far
          (subst (λ plan. ServesOne tells plan between after
          (links (coming here.door) (coming next.door) (finished here.door) (finished next.door)))
          here.invariant.plan c.in-Ok.ensures.done);
      few = search rules;
      is = c.serve_link.ensures.is;
      plan = c.serve_link.ensures.plan ∙ here.invariant.plan;
      begun = c.serve_link.ensures.begun ∙ here.invariant.begun;
      address = c.serve_link.ensures.address ∙ here.invariant.address;
      home = c.serve_link.ensures.home;
      calm = c.in-Ok.ensures.cause.calm ∙ here.invariant.calm;
    }
