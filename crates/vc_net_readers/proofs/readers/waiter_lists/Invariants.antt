-- The rules so far stand at each of their places.
use Rattle.std.proofs.Common.{◌≡◌, [], length, replicate}
use Rattle.vc_net_readers.specs.Filing.{filed_below}
use Rattle.vc_net_readers.specs.Waiting.{awaited_by}
use Rattle.vc_net_readers.proofs.readers.waiter_lists.Given as goal

abbrev pub invariant-loop-rule : goal.invariant-loop-rule
invariant-loop-rule l = l.lists.items ≡ filed_below (awaited_by l.plan) l.rule (replicate (length l.plan.vars) [])
