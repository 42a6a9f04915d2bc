-- The first of the facts to come is the first of all.
use Rattle.std.proofs.Common.{◌≡◌, length}
use Rattle.std.specs.List.{find}
use Rattle.vc_net_blame.specs.Searching.{out_at_odds}
use Rattle.vc_net_standing.specs.Standing.{atoms_of}
use Rattle.vc_net_blame.proofs.odds.first_out.Given as goal

abbrev pub invariant-loop-rest : goal.invariant-loop-rest
invariant-loop-rest l =
    find (out_at_odds l.plan l.atom) (atoms_of l.rest) ≡ find (out_at_odds l.plan l.atom) (atoms_of l.facts)

abbrev pub decreases-loop-rest : goal.decreases-loop-rest
decreases-loop-rest l = length l.rest
