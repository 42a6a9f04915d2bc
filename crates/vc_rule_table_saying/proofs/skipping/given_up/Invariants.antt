-- How many are given up so far, with those from here on, is how many of all are.
use Rattle.std.proofs.Common.{◌≡◌, ◌+◌, length}
use Rattle.vc_rule_table_saying.specs.Skipping.{given_up}
use Rattle.vc_rule_table_saying.proofs.skipping.given_up.Given as goal

abbrev pub invariant-loop-rest : goal.invariant-loop-rest
invariant-loop-rest l =
    (l.count + given_up l.columns l.rest ≡ given_up l.columns l.notes)
    × (l.count + length l.rest ≡ length l.notes)

abbrev pub decreases-loop-rest : goal.decreases-loop-rest
decreases-loop-rest l = length l.rest
