-- All is the same but for the variables from here on.
use Rattle.std.proofs.Common.{◌≡◌, length}
use Rattle.vc_net.specs.Differing.{SameBeside}
use Rattle.vc_net.proofs.copying.copy_entries.Given as goal

abbrev pub invariant-loop-rest : goal.invariant-loop-rest
invariant-loop-rest l = record {
  same : SameBeside l.rest l.sources.written l.from.written;
  long : length l.sources.written ≡ length l.from.written;
  stays : l.sources.user ≡ l.fn.sources.user;
}

abbrev pub decreases-loop-rest : goal.decreases-loop-rest
decreases-loop-rest l = length l.rest
