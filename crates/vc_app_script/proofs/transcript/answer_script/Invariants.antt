use Rattle.std.proofs.Common.{◌≡◌, ◌≤◌, length}
use Rattle.vc_desk.specs.Desks.{IsDesk}
use Rattle.vc_app_script.proofs.TranscriptLaws.{SoFar, state_beside}
use Rattle.vc_app_script.proofs.transcript.answer_script.Given as goal

-- the lines before `rest` are answered
abbrev pub invariant-loop-line : goal.invariant-loop-line
invariant-loop-line g l = record {
  so_far : SoFar l.fn.desk.plan l.script l.rest
      (state_beside g.K.Keeper.texts g.K.Keeper.faults l.fn.desk l.fn.keeper)
      (state_beside g.K.Keeper.texts g.K.Keeper.faults l.desk l.keeper)
      (g.S.Sink.written l.fn.out) (g.S.Sink.written l.out);
  later : g.S.Sink.faults l.fn.out ≤ g.S.Sink.faults l.out;
  is : IsDesk l.desk;
  plan : l.desk.plan ≡ l.fn.desk.plan;
  begun : g.K.Keeper.begun l.keeper ≡ g.K.Keeper.begun l.fn.keeper;
}

abbrev pub decreases-loop-line : goal.decreases-loop-line
decreases-loop-line g l = length l.rest
