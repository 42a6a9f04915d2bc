-- What was counted before the facts from here on still is.
use Rattle.std.proofs.Common.{◌≡◌, ◌++◌, List, length}
use Rattle.vc_plan.specs.declared.atoms.Atom.{Atom}
use Rattle.vc_net_standing.specs.Standing.{atoms_of}
use Rattle.vc_net_log.specs.Keeping.{IsCounted}
use Rattle.vc_net_log.proofs.counting.count_less.Given as goal

abbrev pub invariant-loop-rest : goal.invariant-loop-rest
invariant-loop-rest l =
    ((others : List Atom) → IsCounted (others ++ atoms_of l.facts) l.fn.outs
    → IsCounted (others ++ atoms_of l.rest) l.outs)
    × (length l.outs ≡ length l.fn.outs)

abbrev pub decreases-loop-rest : goal.decreases-loop-rest
decreases-loop-rest l = length l.rest
