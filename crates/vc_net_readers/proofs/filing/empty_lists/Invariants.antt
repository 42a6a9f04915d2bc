use Rattle.std.proofs.Common.{◌≡◌, [], replicate}
use Rattle.vc_net_readers.proofs.filing.empty_lists.Given as goal

abbrev pub invariant-loop-place : goal.invariant-loop-place
invariant-loop-place l = l.lists.items ≡ replicate l.place []
