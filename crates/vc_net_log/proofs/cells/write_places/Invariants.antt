-- What is written so far, with the places from here on, is all.
use Rattle.std.proofs.Common.{◌≡◌, ◌+◌, ◌^◌, ◌<◌, ◌≤◌, true, length, map}
use Rattle.std.specs.Prelude.{nat_lt}
use Rattle.std.specs.List.{list_all}
use Rattle.vc_net_places.specs.Places.{place_in}
use Rattle.vc_net_log.specs.Keeping.{written}
use Rattle.vc_net_log.proofs.cells.write_places.Given as goal

abbrev pub invariant-loop-rest : goal.invariant-loop-rest
invariant-loop-rest l =
    (written l.at (map (place_in l.places) l.rest) l.cells
    ≡ written l.first (map (place_in l.places) l.atoms) l.fn.cells)
    × ((l.at + length l.rest ≤ length l.cells)
    × ((length l.cells < 2 ^ 32) × (list_all (λ atom. nat_lt (place_in l.places atom) (2 ^ 32)) l.rest ≡ true)))

abbrev pub decreases-loop-rest : goal.decreases-loop-rest
decreases-loop-rest l = length l.rest
