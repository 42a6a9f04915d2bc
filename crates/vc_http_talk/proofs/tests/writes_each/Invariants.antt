-- The desk stays one, and the keeper begun.
use Rattle.std.proofs.Common.{◌≡◌}
use Rattle.vc_desk.specs.Desks.{IsDesk}
use Rattle.vc_http_talk.proofs.tests.writes_each.Given as goal

abbrev pub invariant-loop-failing : goal.invariant-loop-failing
invariant-loop-failing g l = record {
  is : IsDesk l.desk;
  begun : l.keeper.begun ≡ l.fn.keeper.begun;
}
