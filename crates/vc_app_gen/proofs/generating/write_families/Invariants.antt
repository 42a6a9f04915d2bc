-- So many lines are written.
use Rattle.std.proofs.Common.{◌≤◌}
use Rattle.vc_app_gen.specs.Generating.{WritesLines}
use Rattle.vc_app_gen.proofs.generating.write_families.Given as goal

abbrev pub invariant-loop-place : goal.invariant-loop-place
invariant-loop-place g l = record {
  lines : WritesLines l.place (g.S.Sink.written l.fn.out) (g.S.Sink.written l.out);
  later : g.S.Sink.faults l.fn.out ≤ g.S.Sink.faults l.out;
  within : l.place ≤ l.count;
}
