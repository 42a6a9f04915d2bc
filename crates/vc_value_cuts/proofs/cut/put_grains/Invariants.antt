use Rattle.std.proofs.Common.{◌≡◌, ◌++◌, drop}
use Rattle.vc_value_cuts.proofs.cut.put_grains.Given as goal

abbrev pub invariant-loop-n : goal.invariant-loop-n
invariant-loop-n l = l.out.items ++ drop l.n l.list ≡ l.fn.out.items ++ l.list
