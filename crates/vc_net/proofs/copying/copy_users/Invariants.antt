-- All is the same but for the variables from here on.
use Rattle.std.proofs.Common.{◌≡◌, length}
use Rattle.vc_net.specs.Differing.{SameBeside}
use Rattle.vc_net.proofs.copying.copy_users.Given as goal

abbrev pub invariant-loop-rest : goal.invariant-loop-rest
invariant-loop-rest l = record {
  same : SameBeside l.rest l.sources.user l.from.user;
  long : length l.sources.user ≡ length l.from.user;
  stays : l.sources.written ≡ l.fn.sources.written;
}

abbrev pub decreases-loop-rest : goal.decreases-loop-rest
decreases-loop-rest l = length l.rest
