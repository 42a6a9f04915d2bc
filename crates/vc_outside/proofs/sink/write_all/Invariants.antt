use Rattle.std.proofs.Common.{length, ◌≡◌}
use Rattle.vc_outside.proofs.Pieces.{Written}
use Rattle.vc_outside.proofs.sink.write_all.Given as goal

abbrev pub invariant-loop-rest : goal.invariant-loop-rest
invariant-loop-rest g l = record {
  moved : Written (g.S.Sink.written l.fn.sink) (g.S.Sink.written l.sink) l.bytes l.rest;
  calm : g.S.Sink.faults l.sink ≡ g.S.Sink.faults l.fn.sink;
}

abbrev pub decreases-loop-rest : goal.decreases-loop-rest
decreases-loop-rest g l = length l.rest
