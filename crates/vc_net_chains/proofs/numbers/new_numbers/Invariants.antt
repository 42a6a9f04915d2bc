-- The new numbers so far, with those from here on, are all.
use Rattle.std.proofs.Common.{◌≡◌, ◌++◌, length, map}
use Rattle.vc_net_chains.specs.Leaving.{number_in}
use Rattle.vc_net_chains.proofs.numbers.new_numbers.Given as goal

abbrev pub invariant-loop-rest : goal.invariant-loop-rest
invariant-loop-rest l = l.left ++ map (number_in l.numbers) l.rest ≡ map (number_in l.numbers) l.cited

abbrev pub decreases-loop-rest : goal.decreases-loop-rest
decreases-loop-rest l = length l.rest
