-- The numbers so far, with those of the atoms from here on, are all of them.
use Rattle.std.proofs.Common.{◌≡◌, ◌++◌, length, map}
use Rattle.vc_plan_blame.specs.Blame.{number_of}
use Rattle.vc_net_going.specs.Breaking.{stand_with}
use Rattle.vc_net.proofs.clashes.numbers_of.Given as goal

abbrev pub invariant-loop-rest : goal.invariant-loop-rest
invariant-loop-rest l =
    l.numbers ++ map (number_of (stand_with l.log.steps l.last)) l.rest
    ≡ map (number_of (stand_with l.log.steps l.last)) l.atoms

abbrev pub decreases-loop-rest : goal.decreases-loop-rest
decreases-loop-rest l = length l.rest
