-- What the rest makes of the draft is what all makes of it.
use Rattle.std.proofs.Common.{◌≡◌, ◌+◌, ◌≤◌, length}
use Rattle.vc_wire_chains.specs.Files.{lines_of, read_from}
use Rattle.vc_wire_chains.proofs.reading.read_from.Given as goal

abbrev pub invariant-loop-rest : goal.invariant-loop-rest
invariant-loop-rest l = record {
  so_far : read_from l.plan l.draft l.number (lines_of l.rest) ≡ read_from l.plan l.fn.start 2 (lines_of l.text);
  few : l.number + length l.rest ≤ length l.text + 2;
}

abbrev pub decreases-loop-rest : goal.decreases-loop-rest
decreases-loop-rest l = length l.rest
