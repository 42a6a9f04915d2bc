-- What is chosen by those to come is what is chosen by all.
use Rattle.std.proofs.Common.{◌≡◌, map, drop}
use Rattle.vc_store.specs.Marking.{AreFor, given_all, given_by, meaning_in}
use Rattle.vc_store.proofs.giving.given_by.Given as goal

abbrev pub invariant-loop-json : goal.invariant-loop-json
invariant-loop-json l =
    AreFor l.plan l.users
    × (given_all l.users (map (meaning_in l.plan) (drop l.json-index l.values)) ≡ given_by l.plan l.values)
