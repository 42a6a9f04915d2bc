-- What the rest tells behind what is told so far is what all tell.
use Rattle.std.proofs.Common.{◌≡◌, length}
use Rattle.vc_check_chains.specs.Places.{HasPlaces}
use Rattle.vc_check_chains.specs.Telling.{with_steps}
use Rattle.vc_check_chains.proofs.telling.tell_all.Given as goal

abbrev pub invariant-loop-rest : goal.invariant-loop-rest
invariant-loop-rest l = record {
  told : with_steps l.plan l.sources l.rest ≡ with_steps l.plan l.fn.sources l.steps;
  places : HasPlaces l.plan l.sources;
}

abbrev pub decreases-loop-rest : goal.decreases-loop-rest
decreases-loop-rest l = length l.rest
