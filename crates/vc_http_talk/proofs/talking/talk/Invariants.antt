use Rattle.std.proofs.Common.{◌≡◌, ◌-◌, ◌<◌, ◌≤◌, length}
use Rattle.vc_desk.specs.Desks.{IsDesk, state_of}
use Rattle.vc_http_talk.proofs.TalkLaws.{SoFar}
use Rattle.vc_http_talk.proofs.talking.talk.Given as goal

-- the connection goes on behind so many messages that are answered, and the bytes that are kept and left are left
abbrev pub invariant-loop-answered : goal.invariant-loop-answered
invariant-loop-answered g l = record {
  so_far : SoFar l.fn.desk.plan (g.L.Link.left l.fn.link) l.buffer (g.L.Link.left l.link) l.answered
      (state_of l.fn.desk.sessions (g.K.Keeper.texts l.fn.keeper) (g.K.Keeper.faults l.fn.keeper))
      (state_of l.desk.sessions (g.K.Keeper.texts l.keeper) (g.K.Keeper.faults l.keeper))
      (g.L.Link.written l.fn.link) (g.L.Link.written l.link);
  calm : g.L.Link.faults l.link ≡ g.L.Link.faults l.fn.link;
  fewer : l.answered < 10000;
  few : length l.buffer ≤ 77824;
  is : IsDesk l.desk;
  plan : l.desk.plan ≡ l.fn.desk.plan;
  begun : g.K.Keeper.begun l.keeper ≡ g.K.Keeper.begun l.fn.keeper;
}

abbrev pub decreases-loop-answered : goal.decreases-loop-answered
decreases-loop-answered g l = 10000 - l.answered
