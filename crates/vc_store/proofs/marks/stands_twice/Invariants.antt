-- Whether a value of those to come stands where one stood is whether two stand at one place.
use Rattle.std.proofs.Common.{◌≡◌, map, drop}
use Rattle.vc_store.specs.Marking.{AreFor, place_in, stand_twice, twice_among}
use Rattle.vc_store.proofs.marks.stands_twice.Given as goal

abbrev pub invariant-loop-json : goal.invariant-loop-json
invariant-loop-json l =
    AreFor l.plan l.marks
    × (twice_among l.marks (map (place_in l.plan) (drop l.json-index l.values)) ≡ stand_twice l.plan l.values)
