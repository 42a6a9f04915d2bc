-- All is the same but for the variables from here on.
use Rattle.std.proofs.Common.{◌≡◌, length}
use Rattle.vc_plan.specs.Entries.{sources_in}
use Rattle.vc_net.specs.Differing.{SameBeside}
use Rattle.vc_session_evaluation.proofs.filling.fill_entries_at.Given as goal

abbrev pub invariant-loop-rest : goal.invariant-loop-rest
invariant-loop-rest l = record {
  same : SameBeside l.rest l.sources.written (sources_in l.overlay);
  long : length l.sources.written ≡ length (sources_in l.overlay);
  stays : l.sources.user ≡ l.fn.sources.user;
}

abbrev pub decreases-loop-rest : goal.decreases-loop-rest
decreases-loop-rest l = length l.rest
