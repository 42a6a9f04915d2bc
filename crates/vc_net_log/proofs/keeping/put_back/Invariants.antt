-- Those that stand with those that are still to stay are all that stay; what is left has places of its own.
use Rattle.std.proofs.Common.{◌≡◌, ◌++◌, length}
use Rattle.vc_net_standing.specs.Standing.{atoms_of}
use Rattle.vc_net_log.specs.Keeping.{IsCounted}
use Rattle.vc_net_log.specs.Staying.{AreApart, differs, needed, staying}
use Rattle.vc_net_log.proofs.keeping.put_back.Given as goal

abbrev pub invariant-loop-rest : goal.invariant-loop-rest
invariant-loop-rest l =
    (l.standing.index ≡ l.fn.standing.index)
    × (l.standing.facts
    ++ staying l.fn.standing.index (differs l.old l.new)
    (needed l.fn.standing.index l.cells l.counts l.premises) l.standing.facts l.rest
    ≡ l.fn.standing.facts
    ++ staying l.fn.standing.index (differs l.old l.new)
    (needed l.fn.standing.index l.cells l.counts l.premises) l.fn.standing.facts l.facts)
    × AreApart l.standing l.rest
    × IsCounted (atoms_of l.standing.facts) l.outs
    × (length l.outs ≡ length l.fn.outs)

abbrev pub decreases-loop-rest : goal.decreases-loop-rest
decreases-loop-rest l = length l.rest
