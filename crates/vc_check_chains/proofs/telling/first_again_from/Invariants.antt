-- The first of the rest is the first of all: those before tell nothing again.
use Rattle.std.proofs.Common.{◌≡◌, ◌≤◌, ◌+◌, length}
use Rattle.vc_check_chains.specs.Places.{HasPlaces}
use Rattle.vc_check_chains.specs.Telling.{first_again_from}
use Rattle.vc_check_chains.proofs.telling.first_again_from.Given as goal

abbrev pub invariant-loop-rest : goal.invariant-loop-rest
invariant-loop-rest l = record {
  first : first_again_from l.plan l.sources l.number l.rest ≡ first_again_from l.plan l.fn.sources 1 l.steps;
  few : l.number + length l.rest ≤ length l.steps + 1;
  places : HasPlaces l.plan l.sources;
}

abbrev pub decreases-loop-rest : goal.decreases-loop-rest
decreases-loop-rest l = length l.rest
