use Rattle.std.proofs.Common.{◌≡◌, ◌++◌, drop}
use Rattle.vc_value_cuts.proofs.grains.listed.Given as goal

abbrev pub invariant-loop-grain : goal.invariant-loop-grain
invariant-loop-grain l = l.list ++ drop l.grain-index l.grains ≡ l.grains
