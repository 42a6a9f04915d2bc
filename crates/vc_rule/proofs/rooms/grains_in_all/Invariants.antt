use Rattle.std.specs.Prelude.{◌≡◌, ◌+◌, length}
use Rattle.vc_rule.specs.Rooms.{grains_in_all}
use Rattle.vc_rule.proofs.rooms.grains_in_all.Given as goal

abbrev pub decreases-loop-rest : goal.decreases-loop-rest
decreases-loop-rest l = length l.rest

-- the grains so far and those of the variables left are those of all
abbrev pub invariant-loop-rest : goal.invariant-loop-rest
invariant-loop-rest l = l.count + grains_in_all l.plan l.rest ≡ grains_in_all l.plan l.vars
