-- The most so far, with those from here on, is the most of all.
use Rattle.std.proofs.Common.{◌≡◌, length}
use Rattle.vc_rule.specs.Rooms.{most_rows}
use Rattle.vc_rule.proofs.rooms.most_rows.Given as goal

abbrev pub invariant-loop-rest : goal.invariant-loop-rest
invariant-loop-rest l = most_rows l.most l.rest ≡ most_rows 0 l.tables

abbrev pub decreases-loop-rest : goal.decreases-loop-rest
decreases-loop-rest l = length l.rest
