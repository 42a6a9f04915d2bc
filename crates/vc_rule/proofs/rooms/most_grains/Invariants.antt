-- The most so far, with those from here on, is the most of all.
use Rattle.std.proofs.Common.{◌≡◌, length}
use Rattle.vc_rule.specs.Rooms.{most_grains}
use Rattle.vc_rule.proofs.rooms.most_grains.Given as goal

abbrev pub invariant-loop-rest : goal.invariant-loop-rest
invariant-loop-rest l = most_grains l.most l.rest ≡ most_grains 0 l.domains

abbrev pub decreases-loop-rest : goal.decreases-loop-rest
decreases-loop-rest l = length l.rest
