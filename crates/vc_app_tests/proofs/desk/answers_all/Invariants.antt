-- The desk stays one, and the keeper begun.
use Rattle.std.proofs.Common.{◌≡◌}
use Rattle.vc_desk.specs.Desks.{IsDesk}
use Rattle.vc_app_tests.proofs.desk.answers_all.Given as goal

abbrev pub invariant-loop-line : goal.invariant-loop-line
invariant-loop-line g l = record {
  is : IsDesk l.desk;
  begun : l.keeper.begun ≡ l.fn.keeper.begun;
}
