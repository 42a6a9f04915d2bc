-- The variables so far stand at each that rules touch which wait for a value of them.
use Rattle.std.proofs.Common.{◌≡◌, [], length, replicate}
use Rattle.vc_net_readers.specs.Filing.{filed_below}
use Rattle.vc_net_readers.specs.Readers.{touched_with}
use Rattle.vc_net_readers.proofs.readers.awaited_from.Given as goal

abbrev pub invariant-loop-var : goal.invariant-loop-var
invariant-loop-var l = l.lists.items ≡ filed_below (touched_with l.plan) l.var (replicate (length l.plan.vars) [])
